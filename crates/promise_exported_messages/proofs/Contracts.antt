-- The records of `Exports` say what the contracts in the code say: each contract is taken as the prover reads it from crates/gateway/src, and gives
-- its record. An `ensures` that said less or something else would leave its line here without a proof.
use Rattle.std.proofs.Common.{◌≡◌, refl}
use contract.Lifetimes.{Lfts}
use denote.Triple.Clauses.{AtExit}
use borrow.Fn.Kinds.{Dens, res_t, ended_of}
use Rattle.gateway.proofs.messages.gateway_encode.Reads as of-encode
use Rattle.gateway.proofs.messages.gateway_encode.Kinds as in-encode
use Rattle.gateway.proofs.Ensured.{Ensures}
use Rattle.gateway.proofs.building.gateway_prepare.Reads as of-prepare
use Rattle.gateway.proofs.building.gateway_prepare.Kinds as in-prepare
use Rattle.gateway.specs.contracts.building.gateway_build as of-build
use Rattle.gateway.specs.contracts.building.gateway_build_prepared as of-build-prepared
use Rattle.gateway.specs.contracts.taking_over.gateway_take_over as of-take-over
use Rattle.promise_exported_messages.specs.Exports.{Builds, Prepares, BuildsPrepared, TakesOver, Encodes}

-- what is lent has a place for each parameter, in the signature's order
pub encode_says : (κs : Lfts 4) (a : Dens κs in-encode.ps) (x : (res_t in-encode.r κs).Denot) (left : AtExit (ended_of 4 in-encode.ps in-encode.r) κs)
    → of-encode.Post κs a x left
    → Encodes a.0.now a.1.0.now a.1.1.0.now a.1.1.1.0 x left.0.now left.1.0.now left.1.1.0.now
    left.1.1.1.1.0.now
encode_says κs a x left p =
    record { answers = p.0; leaves-words = p.1.0; leaves-values = p.1.1.0; leaves_output = p.1.1.1.0; tells = p.1.1.1.1 }

pub prepare_says : (κs : Lfts 4) (a : Dens κs in-prepare.ps) (x : (res_t in-prepare.r κs).Denot) (left : AtExit (ended_of 4 in-prepare.ps in-prepare.r) κs)
    → of-prepare.Post κs a x left
    → Prepares a.0.now a.1.0.now a.1.1.0.now x left.1.0.now left.1.1.0.now left.1.1.1.0.now
prepare_says κs a x left p = record { answers = p.0; leaves-copy = p.1.0; leaves-memory = p.1.1.0; tells = p.1.1.1 }

-- Of an export over lent records here is the generated clause itself, as of the
-- framers' exports: in every model it states one plain fact of the values, and that fact is the record.
pub build_says : Ensures of-build.ended (λ M 𝓤. of-build.clauses)
    (λ κs a x left. Builds a.0.now a.1.0 a.1.1.0 a.1.1.1.0.now a.1.1.1.1.0.now x left.1.1.1.1.0.now
    left.1.1.1.1.1.0.now)
build_says =
    record {
      Said = _;
      states = λ M 𝓤 𝓛 mem run κs a g x left. refl;
      gives = λ κs a x left p. record { answers = p.0; fills = p.1; tells = p.2 };
      back = λ κs a x left p. (p.answers, p.fills, p.tells);
    }

pub build_prepared_says : Ensures of-build-prepared.ended (λ M 𝓤. of-build-prepared.clauses)
    (λ κs a x left. BuildsPrepared a.0.now a.1.0 a.1.1.0 a.1.1.1.0.now a.1.1.1.1.0.now a.1.1.1.1.1.0.now x
    left.1.1.1.1.1.0.now left.1.1.1.1.1.1.0.now)
build_prepared_says =
    record {
      Said = _;
      states = λ M 𝓤 𝓛 mem run κs a g x left. refl;
      gives = λ κs a x left p. record { answers = p.0; fills = p.1; tells = p.2 };
      back = λ κs a x left p. (p.answers, p.fills, p.tells);
    }

pub take-over_says : Ensures of-take-over.ended (λ M 𝓤. of-take-over.clauses)
    (λ κs a x left. TakesOver a.0.now a.1.0 a.1.1.0.now a.1.1.1.0.now a.1.1.1.1.0.now x left.1.1.1.0.now
    left.1.1.1.1.0.now left.1.1.1.1.1.0.now)
take-over_says =
    record {
      Said = _;
      states = λ M 𝓤 𝓛 mem run κs a g x left. refl;
      gives = λ κs a x left p. record { answers = p.0; leaves-words = p.1; leaves-values = p.2; tells = p.3 };
      back = λ κs a x left p. (p.answers, p.leaves-words, p.leaves-values, p.tells);
    }
