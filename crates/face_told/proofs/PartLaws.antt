-- The parts by their numbers.
use Rattle.std.specs.Prelude.{ℕ, ◌≡◌, refl}
use Rattle.std.proofs.Common.{eq-eqb, ne_eqb}
use Rattle.message_rules.specs.declared.Part.TheVariants.{Header, Body, Trailer}
use Rattle.face_told.specs.Told.{part_numbered}

pub numbered-header : (n : ℕ) → n ≡ 1 → part_numbered n ≡ Header
unfolding part_numbered
numbered-header n e = rw (eq-eqb n 1 e) refl

pub numbered-body : (n : ℕ) → (n ≡ 1 → ⊥) → n ≡ 2 → part_numbered n ≡ Body
unfolding part_numbered
numbered-body n other e = rw (ne_eqb n 1 other, eq-eqb n 2 e) refl

pub numbered-trailer : (n : ℕ) → (n ≡ 1 → ⊥) → (n ≡ 2 → ⊥) → part_numbered n ≡ Trailer
unfolding part_numbered
numbered-trailer n other further = rw (ne_eqb n 1 other, ne_eqb n 2 further) refl
