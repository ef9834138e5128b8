-- Stage one of the check: all records of a dictionary one after the other, and how they end.
use Rattle.std.specs.Prelude.{ℕ, zero, suc, ◌-◌, List, length}
use Rattle.dictionary_rules.specs.Record.{record_at}
use Rattle.dictionary_rules.specs.declared.Record.{Record}
use Rattle.dictionary_rules.specs.declared.RecordRead.{RecordRead}
use Rattle.dictionary_rules.specs.declared.RecordRead.TheVariants.{Whole, Bad, End}

-- each record with the place of its first byte; at the end the dictionary's length, or the place of a record that is bad
pub data Records : Type 0 where
  ends : ℕ → Records
  bad : ℕ → Records
  whole : ℕ → Record → Records → Records

unfoldable pub followed_by : ℕ → ℕ → RecordRead → (ℕ → Records) → Records
followed_by size place End rest = ends size
followed_by size place Bad rest = bad place
followed_by size place (Whole r next) rest = whole place r (rest next)

-- at most so many records, which is enough where no more bytes than that are left
unfoldable pub records_within : ℕ → List ℕ → ℕ → Records
records_within zero dictionary place = ends (length dictionary)
records_within (suc fuel) dictionary place =
    followed_by (length dictionary) place (record_at dictionary place) (λ next. records_within fuel dictionary next)

-- all records from a place on
unfoldable pub records_from : List ℕ → ℕ → Records
records_from dictionary place = records_within (length dictionary - place) dictionary place
