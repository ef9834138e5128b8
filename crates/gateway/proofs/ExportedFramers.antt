-- The framers' exports ensure what promise_exported_framers takes from them: the generated clause of each states a plain fact of the values,
-- and that fact is the record of the export, no less and no more.
use Rattle.std.proofs.Common.{refl}
use Rattle.gateway.proofs.Ensured.{Ensures}
use Rattle.face_framers.proofs.Exports.{PortedPush, PortedEnd, PortedTake, PortedReset, HunterPush, HunterEnd, HunterTake, HunterReset}
use Rattle.gateway.specs.contracts.framers.gateway_ported_push as of-ported-push
use Rattle.gateway.specs.contracts.framers.gateway_ported_end as of-ported-end
use Rattle.gateway.specs.contracts.framers.gateway_ported_take as of-ported-take
use Rattle.gateway.specs.contracts.framers.gateway_ported_reset as of-ported-reset
use Rattle.gateway.specs.contracts.framers.gateway_hunter_push as of-hunter-push
use Rattle.gateway.specs.contracts.framers.gateway_hunter_end as of-hunter-end
use Rattle.gateway.specs.contracts.framers.gateway_hunter_take as of-hunter-take
use Rattle.gateway.specs.contracts.framers.gateway_hunter_reset as of-hunter-reset

pub gateway_ported_push : Ensures of-ported-push.ended (λ M 𝓤. of-ported-push.clauses)
    (λ κs a x left. PortedPush a.0.now a.1.0.now a.1.1.0.now x left.0.now left.1.0.now left.1.1.1.0.now)
gateway_ported_push = record {
  Said = _;
  states = λ M 𝓤 𝓛 mem run κs a g x left. refl;
  gives = λ κs a x left p. record { answered = p.0; state-left = p.1; store-left = p.2; out_left = p.3 };
  back = λ κs a x left p. (p.answered, p.state-left, p.store-left, p.out_left);
}

pub gateway_ported_end : Ensures of-ported-end.ended (λ M 𝓤. of-ported-end.clauses)
    (λ κs a x left. PortedEnd a.0.now a.1.0.now x left.0.now left.1.1.0.now)
gateway_ported_end = record {
  Said = _;
  states = λ M 𝓤 𝓛 mem run κs a g x left. refl;
  gives = λ κs a x left p. record { answered = p.0; state-left = p.1; out_left = p.2 };
  back = λ κs a x left p. (p.answered, p.state-left, p.out_left);
}

pub gateway_ported_take : Ensures of-ported-take.ended (λ M 𝓤. of-ported-take.clauses)
    (λ κs a x left. PortedTake a.0.now a.1.0.now a.1.1.0.now x left.0.now left.1.0.now left.1.1.0.now left.1.1.1.0.now)
gateway_ported_take = record {
  Said = _;
  states = λ M 𝓤 𝓛 mem run κs a g x left. refl;
  gives = λ κs a x left p. record { answered = p.0; state-left = p.1; store-left = p.2; output_left = p.3; out_left = p.4 };
  back = λ κs a x left p. (p.answered, p.state-left, p.store-left, p.output_left, p.out_left);
}

pub gateway_ported_reset : Ensures of-ported-reset.ended (λ M 𝓤. of-ported-reset.clauses)
    (λ κs a x left. PortedReset x left.0.now left.1.0.now)
gateway_ported_reset = record {
  Said = _;
  states = λ M 𝓤 𝓛 mem run κs a g x left. refl;
  gives = λ κs a x left p. record { answered = p.0; state-left = p.1; out_left = p.2 };
  back = λ κs a x left p. (p.answered, p.state-left, p.out_left);
}

pub gateway_hunter_push : Ensures of-hunter-push.ended (λ M 𝓤. of-hunter-push.clauses)
    (λ κs a x left. HunterPush a.0.now a.1.0.now a.1.1.0.now x left.0.now left.1.0.now left.1.1.1.0.now)
gateway_hunter_push = record {
  Said = _;
  states = λ M 𝓤 𝓛 mem run κs a g x left. refl;
  gives = λ κs a x left p. record { answered = p.0; state-left = p.1; store-left = p.2; out_left = p.3 };
  back = λ κs a x left p. (p.answered, p.state-left, p.store-left, p.out_left);
}

pub gateway_hunter_end : Ensures of-hunter-end.ended (λ M 𝓤. of-hunter-end.clauses)
    (λ κs a x left. HunterEnd a.0.now a.1.0.now x left.0.now left.1.1.0.now)
gateway_hunter_end = record {
  Said = _;
  states = λ M 𝓤 𝓛 mem run κs a g x left. refl;
  gives = λ κs a x left p. record { answered = p.0; state-left = p.1; out_left = p.2 };
  back = λ κs a x left p. (p.answered, p.state-left, p.out_left);
}

pub gateway_hunter_take : Ensures of-hunter-take.ended (λ M 𝓤. of-hunter-take.clauses)
    (λ κs a x left. HunterTake a.0.now a.1.0.now a.1.1.0.now x left.0.now left.1.0.now left.1.1.0.now left.1.1.1.0.now)
gateway_hunter_take = record {
  Said = _;
  states = λ M 𝓤 𝓛 mem run κs a g x left. refl;
  gives = λ κs a x left p. record { answered = p.0; state-left = p.1; store-left = p.2; output_left = p.3; out_left = p.4 };
  back = λ κs a x left p. (p.answered, p.state-left, p.store-left, p.output_left, p.out_left);
}

pub gateway_hunter_reset : Ensures of-hunter-reset.ended (λ M 𝓤. of-hunter-reset.clauses)
    (λ κs a x left. HunterReset x left.0.now left.1.0.now)
gateway_hunter_reset = record {
  Said = _;
  states = λ M 𝓤 𝓛 mem run κs a g x left. refl;
  gives = λ κs a x left p. record { answered = p.0; state-left = p.1; out_left = p.2 };
  back = λ κs a x left p. (p.answered, p.state-left, p.out_left);
}
