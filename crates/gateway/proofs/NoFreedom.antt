-- "Two results that satisfy it are shown equal": one schema over a contract as the prover reads it, and each export under it.
-- The contract is the code's own, so an `ensures` that said less would leave its export here without a proof.
use Rattle.std.proofs.Common.{◌≡◌, refl}
use seplogic.Ra.Ura.{Ura}
use base.Logic.{SProp}
use prog.Memory.{Memory}
use prog.Routine.{Routine}
use types.Logic.{Logic}
use contract.Monad.{Fun, fact}
use contract.Lifetimes.{Lfts}
use denote.Triple.Entry.{Args, Res}
use denote.Triple.Clauses.{AtExit, Ended, Clauses}
use Rattle.promise_no_freedom.proofs.Schema.{same, NoFreedom}
use Rattle.gateway.proofs.gateway_most_records.Reads as of-most-records
use Rattle.gateway.proofs.gateway_most_records.Kinds as in-most-records
use Rattle.gateway.proofs.gateway_most_message_bytes.Reads as of-most-message-bytes
use Rattle.gateway.proofs.gateway_most_message_bytes.Kinds as in-most-message-bytes
use Rattle.gateway.proofs.gateway_store_bytes.Reads as of-store-bytes
use Rattle.gateway.proofs.gateway_store_bytes.Kinds as in-store-bytes
use Rattle.gateway.proofs.gateway_most_dictionary_bytes.Reads as of-most-dictionary-bytes
use Rattle.gateway.proofs.gateway_most_dictionary_bytes.Kinds as in-most-dictionary-bytes
use Rattle.gateway.proofs.gateway_message_words.Reads as of-message-words
use Rattle.gateway.proofs.gateway_message_words.Kinds as in-message-words
use Rattle.gateway.proofs.building.gateway_check.Reads as of-check
use Rattle.gateway.proofs.building.gateway_check.Kinds as in-check
use Rattle.gateway.proofs.building.gateway_prepared_words.Reads as of-prepared-words
use Rattle.gateway.proofs.building.gateway_prepared_words.Kinds as in-prepared-words
use Rattle.gateway.proofs.building.gateway_prepare.Reads as of-prepare
use Rattle.gateway.proofs.building.gateway_prepare.Kinds as in-prepare
use Rattle.gateway.proofs.finding.gateway_find_part.Reads as of-find-part
use Rattle.gateway.proofs.finding.gateway_find_part.Kinds as in-find-part
use Rattle.gateway.proofs.finding.gateway_find_field.Reads as of-find-field
use Rattle.gateway.proofs.finding.gateway_find_field.Kinds as in-find-field
use Rattle.gateway.proofs.finding.gateway_find_entry.Reads as of-find-entry
use Rattle.gateway.proofs.finding.gateway_find_entry.Kinds as in-find-entry
use Rattle.gateway.proofs.messages.gateway_empty.Reads as of-empty
use Rattle.gateway.proofs.messages.gateway_empty.Kinds as in-empty
use Rattle.gateway.proofs.messages.gateway_new.Reads as of-new
use Rattle.gateway.proofs.messages.gateway_new.Kinds as in-new
use Rattle.gateway.proofs.messages.gateway_store.Reads as of-store
use Rattle.gateway.proofs.messages.gateway_store.Kinds as in-store
use Rattle.gateway.proofs.messages.gateway_remove.Reads as of-remove
use Rattle.gateway.proofs.messages.gateway_remove.Kinds as in_remove
use Rattle.gateway.proofs.messages.gateway_draft.Reads as of-draft
use Rattle.gateway.proofs.messages.gateway_draft.Kinds as in-draft
use Rattle.gateway.proofs.messages.gateway_add_entry.Reads as of-add-entry
use Rattle.gateway.proofs.messages.gateway_add_entry.Kinds as in-add-entry
use Rattle.gateway.proofs.messages.gateway_store_last.Reads as of-store-last
use Rattle.gateway.proofs.messages.gateway_store_last.Kinds as in-store-last
use Rattle.gateway.proofs.messages.gateway_hang_last.Reads as of-hang-last
use Rattle.gateway.proofs.messages.gateway_hang_last.Kinds as in-hang-last
use Rattle.gateway.proofs.messages.gateway_hang.Reads as of-hang
use Rattle.gateway.proofs.messages.gateway_hang.Kinds as in-hang
use Rattle.gateway.proofs.messages.gateway_encode.Reads as of-encode
use Rattle.gateway.proofs.messages.gateway_encode.Kinds as in-encode
use Rattle.gateway.specs.contracts.building.gateway_build as of-build
use Rattle.gateway.specs.contracts.building.gateway_build_prepared as of-build-prepared
use Rattle.gateway.specs.contracts.taking_over.gateway_take_over as of-take-over
use Rattle.gateway.specs.contracts.framers.gateway_ported_push as of-ported-push
use Rattle.gateway.specs.contracts.framers.gateway_ported_end as of-ported-end
use Rattle.gateway.specs.contracts.framers.gateway_ported_take as of-ported-take
use Rattle.gateway.specs.contracts.framers.gateway_ported_reset as of-ported-reset
use Rattle.gateway.specs.contracts.framers.gateway_hunter_push as of-hunter-push
use Rattle.gateway.specs.contracts.framers.gateway_hunter_end as of-hunter-end
use Rattle.gateway.specs.contracts.framers.gateway_hunter_take as of-hunter-take
use Rattle.gateway.specs.contracts.framers.gateway_hunter_reset as of-hunter-reset

pub gateway_most_records : NoFreedom 0 in-most-records.ps in-most-records.r of-most-records.Post (λ κs x y left other. x ≡ y)
gateway_most_records κs a x y left other p q = same p q

pub gateway_most_message_bytes : NoFreedom 0 in-most-message-bytes.ps in-most-message-bytes.r of-most-message-bytes.Post (λ κs x y left other. x ≡ y)
gateway_most_message_bytes κs a x y left other p q = same p q

pub gateway_store_bytes : NoFreedom 0 in-store-bytes.ps in-store-bytes.r of-store-bytes.Post (λ κs x y left other. x ≡ y)
gateway_store_bytes κs a x y left other p q = same p q

pub gateway_most_dictionary_bytes : NoFreedom 0 in-most-dictionary-bytes.ps in-most-dictionary-bytes.r of-most-dictionary-bytes.Post
    (λ κs x y left other. x ≡ y)
gateway_most_dictionary_bytes κs a x y left other p q = same p q

pub gateway_message_words : NoFreedom 0 in-message-words.ps in-message-words.r of-message-words.Post (λ κs x y left other. x ≡ y)
gateway_message_words κs a x y left other p q = same p q

pub gateway_check : NoFreedom 2 in-check.ps in-check.r of-check.Post (λ κs x y left other. (x ≡ y) × (left.1.0.now ≡ other.1.0.now))
gateway_check κs a x y left other p q = (same p.0 q.0, same p.1 q.1)

pub gateway_prepared_words : NoFreedom 0 in-prepared-words.ps in-prepared-words.r of-prepared-words.Post (λ κs x y left other. x ≡ y)
gateway_prepared_words κs a x y left other p q = same p q

pub gateway_prepare : NoFreedom 4 in-prepare.ps in-prepare.r of-prepare.Post
    (λ κs x y left other. (x ≡ y) × (left.1.0.now ≡ other.1.0.now) × (left.1.1.0.now ≡ other.1.1.0.now)
    × (left.1.1.1.0.now ≡ other.1.1.1.0.now))
gateway_prepare κs a x y left other p q = (same p.0 q.0, same p.1.0 q.1.0, same p.1.1.0 q.1.1.0, same p.1.1.1 q.1.1.1)

pub gateway_find_part : NoFreedom 3 in-find-part.ps in-find-part.r of-find-part.Post
    (λ κs x y left other. (x ≡ y) × (left.1.1.1.0.now ≡ other.1.1.1.0.now))
gateway_find_part κs a x y left other p q = (same p.0 q.0, same p.1 q.1)

pub gateway_find_field : NoFreedom 3 in-find-field.ps in-find-field.r of-find-field.Post
    (λ κs x y left other. (x ≡ y) × (left.1.1.1.1.0.now ≡ other.1.1.1.1.0.now))
gateway_find_field κs a x y left other p q = (same p.0 q.0, same p.1 q.1)

pub gateway_find_entry : NoFreedom 3 in-find-entry.ps in-find-entry.r of-find-entry.Post
    (λ κs x y left other. (x ≡ y) × (left.1.1.1.1.1.0.now ≡ other.1.1.1.1.1.0.now))
gateway_find_entry κs a x y left other p q = (same p.0 q.0, same p.1 q.1)

pub gateway_empty : NoFreedom 3 in-empty.ps in-empty.r of-empty.Post
    (λ κs x y left other. (x ≡ y) × (left.0.now ≡ other.0.now) × (left.1.0.now ≡ other.1.0.now) × (left.1.1.0.now ≡ other.1.1.0.now))
gateway_empty κs a x y left other p q = (same p.0 q.0, same p.1.0 q.1.0, same p.1.1.0 q.1.1.0, same p.1.1.1 q.1.1.1)

pub gateway_new : NoFreedom 5 in-new.ps in-new.r of-new.Post (λ κs x y left other. (x ≡ y) × (left.0.now ≡ other.0.now)
    × (left.1.0.now ≡ other.1.0.now) × (left.1.1.1.1.0.now ≡ other.1.1.1.1.0.now))
gateway_new κs a x y left other p q = (same p.0 q.0, same p.1.0 q.1.0, same p.1.1.0 q.1.1.0, same p.1.1.1 q.1.1.1)

pub gateway_store : NoFreedom 4 in-store.ps in-store.r of-store.Post
    (λ κs x y left other. (x ≡ y) × (left.0.now ≡ other.0.now) × (left.1.0.now ≡ other.1.0.now)
    × (left.1.1.1.1.1.0.now ≡ other.1.1.1.1.1.0.now))
gateway_store κs a x y left other p q = (same p.0 q.0, same p.1.0 q.1.0, same p.1.1.0 q.1.1.0, same p.1.1.1 q.1.1.1)

pub gateway_remove : NoFreedom 3 in_remove.ps in_remove.r of-remove.Post
    (λ κs x y left other. (x ≡ y) × (left.0.now ≡ other.0.now) × (left.1.0.now ≡ other.1.0.now)
    × (left.1.1.1.1.0.now ≡ other.1.1.1.1.0.now))
gateway_remove κs a x y left other p q = (same p.0 q.0, same p.1.0 q.1.0, same p.1.1.0 q.1.1.0, same p.1.1.1 q.1.1.1)

pub gateway_draft : NoFreedom 3 in-draft.ps in-draft.r of-draft.Post
    (λ κs x y left other. (x ≡ y) × (left.0.now ≡ other.0.now) × (left.1.0.now ≡ other.1.0.now) × (left.1.1.0.now ≡ other.1.1.0.now))
gateway_draft κs a x y left other p q = (same p.0 q.0, same p.1.0 q.1.0, same p.1.1.0 q.1.1.0, same p.1.1.1 q.1.1.1)

pub gateway_add_entry : NoFreedom 3 in-add-entry.ps in-add-entry.r of-add-entry.Post
    (λ κs x y left other. (x ≡ y) × (left.0.now ≡ other.0.now) × (left.1.0.now ≡ other.1.0.now)
    × (left.1.1.1.1.0.now ≡ other.1.1.1.1.0.now))
gateway_add_entry κs a x y left other p q = (same p.0 q.0, same p.1.0 q.1.0, same p.1.1.0 q.1.1.0, same p.1.1.1 q.1.1.1)

pub gateway_store_last : NoFreedom 4 in-store-last.ps in-store-last.r of-store-last.Post
    (λ κs x y left other. (x ≡ y) × (left.0.now ≡ other.0.now) × (left.1.0.now ≡ other.1.0.now)
    × (left.1.1.1.1.0.now ≡ other.1.1.1.1.0.now))
gateway_store_last κs a x y left other p q = (same p.0 q.0, same p.1.0 q.1.0, same p.1.1.0 q.1.1.0, same p.1.1.1 q.1.1.1)

pub gateway_hang_last : NoFreedom 5 in-hang-last.ps in-hang-last.r of-hang-last.Post
    (λ κs x y left other. (x ≡ y) × (left.0.now ≡ other.0.now) × (left.1.0.now ≡ other.1.0.now)
    × (left.1.1.1.1.0.now ≡ other.1.1.1.1.0.now))
gateway_hang_last κs a x y left other p q = (same p.0 q.0, same p.1.0 q.1.0, same p.1.1.0 q.1.1.0, same p.1.1.1 q.1.1.1)

pub gateway_hang : NoFreedom 5 in-hang.ps in-hang.r of-hang.Post (λ κs x y left other. (x ≡ y) × (left.0.now ≡ other.0.now)
    × (left.1.0.now ≡ other.1.0.now) × (left.1.1.1.1.1.0.now ≡ other.1.1.1.1.1.0.now))
gateway_hang κs a x y left other p q = (same p.0 q.0, same p.1.0 q.1.0, same p.1.1.0 q.1.1.0, same p.1.1.1 q.1.1.1)

pub gateway_encode : NoFreedom 4 in-encode.ps in-encode.r of-encode.Post
    (λ κs x y left other. (x ≡ y) × (left.0.now ≡ other.0.now) × (left.1.0.now ≡ other.1.0.now) × (left.1.1.0.now ≡ other.1.1.0.now)
    × (left.1.1.1.1.0.now ≡ other.1.1.1.1.0.now))
gateway_encode κs a x y left other p q =
    (same p.0 q.0, same p.1.0 q.1.0, same p.1.1.0 q.1.1.0, same p.1.1.1.0 q.1.1.1.0, same p.1.1.1.1 q.1.1.1.1)

-- Of an export over lent records or a lent state here is the generated clause itself: in every model it states one plain fact of the values, found by
-- unification and so never said twice, and that fact leaves no freedom.
pub record NoFreedomOfClause (T : Ended) (contract : (M : Type 1) (𝓤 : Ura M) (𝓛 : Logic 𝓤) → (Memory → SProp 𝓤) → (Routine → Fun 𝓤) → Clauses 𝓤 T)
    (Same : (κs : Lfts T.signature.lifetimes) → Res T.signature κs → Res T.signature κs → AtExit T κs → AtExit T κs → Type 0) : Type 2 where
  pub Said : (κs : Lfts T.signature.lifetimes) → Args T.signature κs → Res T.signature κs → AtExit T κs → Type 0
  pub states : (M : Type 1) (𝓤 : Ura M) (𝓛 : Logic 𝓤) (mem : Memory → SProp 𝓤) (run : Routine → Fun 𝓤) (κs : Lfts T.signature.lifetimes)
      (a : Args T.signature κs) (g : (contract M 𝓤 𝓛 mem run κs a).ghost) (x : Res T.signature κs) (left : AtExit T κs)
      → (contract M 𝓤 𝓛 mem run κs a).ensures g x left ≡ fact 𝓤 (Said κs a x left)
  pub fixes : (κs : Lfts T.signature.lifetimes) (a : Args T.signature κs) (x y : Res T.signature κs) (left other : AtExit T κs) → Said κs a x left
      → Said κs a y other → Same κs x y left other

pub gateway_build : NoFreedomOfClause of-build.ended (λ M 𝓤. of-build.clauses) (λ κs x y left other. (x ≡ y) × (left.1.1.1.1.0.now ≡ other.1.1.1.1.0.now)
    × (left.1.1.1.1.1.0.now ≡ other.1.1.1.1.1.0.now))
gateway_build =
    record {
      Said = _;
      states = λ M 𝓤 𝓛 mem run κs a g x left. refl;
      fixes = λ κs a x y left other p q. (same p.0 q.0, same p.1 q.1, same p.2 q.2);
    }

pub gateway_build_prepared : NoFreedomOfClause of-build-prepared.ended (λ M 𝓤. of-build-prepared.clauses)
    (λ κs x y left other. (x ≡ y) × (left.1.1.1.1.1.0.now ≡ other.1.1.1.1.1.0.now)
    × (left.1.1.1.1.1.1.0.now ≡ other.1.1.1.1.1.1.0.now))
gateway_build_prepared =
    record {
      Said = _;
      states = λ M 𝓤 𝓛 mem run κs a g x left. refl;
      fixes = λ κs a x y left other p q. (same p.0 q.0, same p.1 q.1, same p.2 q.2);
    }

pub gateway_take_over : NoFreedomOfClause of-take-over.ended (λ M 𝓤. of-take-over.clauses)
    (λ κs x y left other. (x ≡ y) × (left.1.1.1.0.now ≡ other.1.1.1.0.now) × (left.1.1.1.1.0.now ≡ other.1.1.1.1.0.now)
    × (left.1.1.1.1.1.0.now ≡ other.1.1.1.1.1.0.now))
gateway_take_over =
    record {
      Said = _;
      states = λ M 𝓤 𝓛 mem run κs a g x left. refl;
      fixes = λ κs a x y left other p q. (same p.0 q.0, same p.1 q.1, same p.2 q.2, same p.3 q.3);
    }

pub gateway_ported_push : NoFreedomOfClause of-ported-push.ended (λ M 𝓤. of-ported-push.clauses)
    (λ κs x y left other. (x ≡ y) × (left.0.now ≡ other.0.now) × (left.1.0.now ≡ other.1.0.now)
    × (left.1.1.1.0.now ≡ other.1.1.1.0.now))
gateway_ported_push =
    record {
      Said = _;
      states = λ M 𝓤 𝓛 mem run κs a g x left. refl;
      fixes = λ κs a x y left other p q. (same p.0 q.0, same p.1 q.1, same p.2 q.2, same p.3 q.3);
    }

pub gateway_ported_end : NoFreedomOfClause of-ported-end.ended (λ M 𝓤. of-ported-end.clauses)
    (λ κs x y left other. (x ≡ y) × (left.0.now ≡ other.0.now) × (left.1.1.0.now ≡ other.1.1.0.now))
gateway_ported_end =
    record {
      Said = _;
      states = λ M 𝓤 𝓛 mem run κs a g x left. refl;
      fixes = λ κs a x y left other p q. (same p.0 q.0, same p.1 q.1, same p.2 q.2);
    }

pub gateway_ported_take : NoFreedomOfClause of-ported-take.ended (λ M 𝓤. of-ported-take.clauses)
    (λ κs x y left other. (x ≡ y) × (left.0.now ≡ other.0.now) × (left.1.0.now ≡ other.1.0.now) × (left.1.1.0.now ≡ other.1.1.0.now)
    × (left.1.1.1.0.now ≡ other.1.1.1.0.now))
gateway_ported_take =
    record {
      Said = _;
      states = λ M 𝓤 𝓛 mem run κs a g x left. refl;
      fixes = λ κs a x y left other p q. (same p.0 q.0, same p.1 q.1, same p.2 q.2, same p.3 q.3, same p.4 q.4);
    }

pub gateway_ported_reset : NoFreedomOfClause of-ported-reset.ended (λ M 𝓤. of-ported-reset.clauses)
    (λ κs x y left other. (x ≡ y) × (left.0.now ≡ other.0.now) × (left.1.0.now ≡ other.1.0.now))
gateway_ported_reset =
    record {
      Said = _;
      states = λ M 𝓤 𝓛 mem run κs a g x left. refl;
      fixes = λ κs a x y left other p q. (same p.0 q.0, same p.1 q.1, same p.2 q.2);
    }

pub gateway_hunter_push : NoFreedomOfClause of-hunter-push.ended (λ M 𝓤. of-hunter-push.clauses)
    (λ κs x y left other. (x ≡ y) × (left.0.now ≡ other.0.now) × (left.1.0.now ≡ other.1.0.now)
    × (left.1.1.1.0.now ≡ other.1.1.1.0.now))
gateway_hunter_push =
    record {
      Said = _;
      states = λ M 𝓤 𝓛 mem run κs a g x left. refl;
      fixes = λ κs a x y left other p q. (same p.0 q.0, same p.1 q.1, same p.2 q.2, same p.3 q.3);
    }

pub gateway_hunter_end : NoFreedomOfClause of-hunter-end.ended (λ M 𝓤. of-hunter-end.clauses)
    (λ κs x y left other. (x ≡ y) × (left.0.now ≡ other.0.now) × (left.1.1.0.now ≡ other.1.1.0.now))
gateway_hunter_end =
    record {
      Said = _;
      states = λ M 𝓤 𝓛 mem run κs a g x left. refl;
      fixes = λ κs a x y left other p q. (same p.0 q.0, same p.1 q.1, same p.2 q.2);
    }

pub gateway_hunter_take : NoFreedomOfClause of-hunter-take.ended (λ M 𝓤. of-hunter-take.clauses)
    (λ κs x y left other. (x ≡ y) × (left.0.now ≡ other.0.now) × (left.1.0.now ≡ other.1.0.now) × (left.1.1.0.now ≡ other.1.1.0.now)
    × (left.1.1.1.0.now ≡ other.1.1.1.0.now))
gateway_hunter_take =
    record {
      Said = _;
      states = λ M 𝓤 𝓛 mem run κs a g x left. refl;
      fixes = λ κs a x y left other p q. (same p.0 q.0, same p.1 q.1, same p.2 q.2, same p.3 q.3, same p.4 q.4);
    }

pub gateway_hunter_reset : NoFreedomOfClause of-hunter-reset.ended (λ M 𝓤. of-hunter-reset.clauses)
    (λ κs x y left other. (x ≡ y) × (left.0.now ≡ other.0.now) × (left.1.0.now ≡ other.1.0.now))
gateway_hunter_reset =
    record {
      Said = _;
      states = λ M 𝓤 𝓛 mem run κs a g x left. refl;
      fixes = λ κs a x y left other p q. (same p.0 q.0, same p.1 q.1, same p.2 q.2);
    }
