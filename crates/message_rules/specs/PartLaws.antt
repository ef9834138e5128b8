-- A part of a message stands between other rows and values, whatever map it has; and the fields that rows count are those of the maps.
use Rattle.std.specs.Prelude.{◌≡◌, refl, List, [], ◌∷◌, ◌++◌, ℕ, ◌+◌, length}
use Rattle.std.proofs.Common.{sym, ap, ◌∙◌, append_assoc, arith, length-append}
use Rattle.message_maps.specs.Map.{Map, values_in, field_count}
use Rattle.message_maps.specs.Rows.{Row, row, laid, sizes, size_of}
use Rattle.message_lent_rules.specs.Lent.{fields_in}
use Rattle.message_lent_rules.specs.Meaning.{Message, parts}
use Rattle.message_lent_rules.specs.LaidLaws.{fields-parts}
use Rattle.message_rules.specs.Changes.{part_of, with_part, field_total}
use Rattle.message_rules.specs.RowChanges.{span_of}
use Rattle.message_rules.specs.LayoutLaws.{sizes-append, sizes-laid}
use Rattle.message_rules.specs.declared.Part.{Part}
use Rattle.message_rules.specs.declared.Part.TheVariants.{Header, Body, Trailer}

pub record PartSplit (part : Part) (m : Message) : Type 0 where
  pub before : List Row
  pub behind : List Row
  pub values-before : List ℕ
  pub values-behind : List ℕ
  pub others : ℕ
  pub rows : (x : Map) → laid 0 (parts (with_part part x m)) ≡ before ++ (laid 1 x ++ behind)
  pub texts : (x : Map) → values_in (parts (with_part part x m)) ≡ values-before ++ (values_in x ++ values-behind)
  pub size-before : sizes before ≡ length values-before
  pub size-behind : sizes behind ≡ length values-behind
  pub fields : (x : Map) → field_total (with_part part x m) ≡ others + field_count x
  pub same : with_part part (part_of part m) m ≡ m
  pub from : (span_of part m).from ≡ length before
  pub to : (span_of part m).to ≡ length before + length (laid 1 (part_of part m))
  pub count : (span_of part m).count ≡ length before + length (laid 1 (part_of part m)) + length behind

pub part_split : (part : Part) (m : Message) → PartSplit part m
unfolding laid parts with_part part_of values_in field_total span_of sizes size_of
part_split Header m =
    record {
      before = row 2 0 1 0 ∷ [];
      behind = row 2 0 2 0 ∷ (laid 1 m.body ++ (row 2 0 3 0 ∷ (laid 1 m.trailer ++ [])));
      values-before = [];
      values-behind = values_in m.body ++ (values_in m.trailer ++ []);
      others = field_count m.body + field_count m.trailer;
      rows = λ x. refl;
      texts = λ x. refl;
      size-before = refl;
      size-behind = omega (arith, sizes-append (laid 1 m.body) (row 2 0 3 0 ∷ (laid 1 m.trailer ++ [])), sizes-append (laid 1 m.trailer) [], sizes-laid 1 m.body, sizes-laid 1 m.trailer, length-append (values_in m.body) (values_in m.trailer ++ []), length-append (values_in m.trailer) []);
      fields = λ x. omega arith;
      same = refl;
      from = refl;
      to = refl;
      count = omega (arith, length-append (laid 1 m.header) (row 2 0 2 0 ∷ (laid 1 m.body ++ (row 2 0 3 0 ∷ (laid 1 m.trailer ++ [])))));
    }
part_split Body m =
    record {
      before = row 2 0 1 0 ∷ (laid 1 m.header ++ (row 2 0 2 0 ∷ []));
      behind = row 2 0 3 0 ∷ (laid 1 m.trailer ++ []);
      values-before = values_in m.header;
      values-behind = values_in m.trailer ++ [];
      others = field_count m.header + field_count m.trailer;
      rows = λ x. ap (λ (r : List Row). row 2 0 1 0 ∷ r) (sym (append_assoc (laid 1 m.header) (row 2 0 2 0 ∷ []) (laid 1 x ++ (row 2 0 3 0 ∷ (laid 1 m.trailer ++ [])))));
      texts = λ x. refl;
      size-before = omega (arith, sizes-append (laid 1 m.header) (row 2 0 2 0 ∷ []), sizes-laid 1 m.header);
      size-behind = omega (arith, sizes-append (laid 1 m.trailer) [], sizes-laid 1 m.trailer, length-append (values_in m.trailer) []);
      fields = λ x. omega arith;
      same = refl;
      from = omega (arith, length-append (laid 1 m.header) (row 2 0 2 0 ∷ []));
      to = omega (arith, length-append (laid 1 m.header) (row 2 0 2 0 ∷ []));
      count = omega (arith, length-append (laid 1 m.header) (row 2 0 2 0 ∷ []), length-append (laid 1 m.header) (row 2 0 2 0 ∷ (laid 1 m.body ++ (row 2 0 3 0 ∷ (laid 1 m.trailer ++ [])))), length-append (laid 1 m.body) (row 2 0 3 0 ∷ (laid 1 m.trailer ++ [])));
    }
part_split Trailer m =
    record {
      before = row 2 0 1 0 ∷ (laid 1 m.header ++ (row 2 0 2 0 ∷ (laid 1 m.body ++ (row 2 0 3 0 ∷ []))));
      behind = [];
      values-before = values_in m.header ++ values_in m.body;
      values-behind = [];
      others = field_count m.header + field_count m.body;
      rows = λ x.
          ap (λ (r : List Row). row 2 0 1 0 ∷ r)
          (sym (append_assoc (laid 1 m.header) (row 2 0 2 0 ∷ (laid 1 m.body ++ (row 2 0 3 0 ∷ []))) (laid 1 x ++ [])
          ∙ ap (λ (r : List Row). laid 1 m.header ++ (row 2 0 2 0 ∷ r)) (append_assoc (laid 1 m.body) (row 2 0 3 0 ∷ []) (laid 1 x ++ []))));
      texts = λ x. sym (append_assoc (values_in m.header) (values_in m.body) (values_in x ++ []));
      size-before = omega (arith, sizes-append (laid 1 m.header) (row 2 0 2 0 ∷ (laid 1 m.body ++ (row 2 0 3 0 ∷ []))), sizes-append (laid 1 m.body) (row 2 0 3 0 ∷ []), sizes-laid 1 m.header, sizes-laid 1 m.body, length-append (values_in m.header) (values_in m.body));
      size-behind = refl;
      fields = λ x. omega arith;
      same = refl;
      from = omega (arith, length-append (laid 1 m.header) (row 2 0 2 0 ∷ (laid 1 m.body ++ (row 2 0 3 0 ∷ []))), length-append (laid 1 m.body) (row 2 0 3 0 ∷ []));
      to = omega (
        arith,
        length-append (laid 1 m.header) (row 2 0 2 0 ∷ (laid 1 m.body ++ (row 2 0 3 0
            ∷ []))),
        length-append (laid 1 m.body) (row 2 0 3 0 ∷ []),
        length-append (laid 1 m.header) (row 2 0 2 0 ∷ (laid 1 m.body ++ (row 2 0 3 0
            ∷ (laid 1 m.trailer ++ [])))),
        length-append (laid 1 m.body) (row 2 0 3 0 ∷ (laid 1 m.trailer
            ++ [])),
        length-append (laid 1 m.trailer) [],
      );
      count = omega (
        arith,
        length-append (laid 1 m.header) (row 2 0 2 0 ∷ (laid 1 m.body ++ (row 2 0 3 0
            ∷ []))),
        length-append (laid 1 m.body) (row 2 0 3 0 ∷ []),
        length-append (laid 1 m.header) (row 2 0 2 0 ∷ (laid 1 m.body ++ (row 2 0 3 0
            ∷ (laid 1 m.trailer ++ [])))),
        length-append (laid 1 m.body) (row 2 0 3 0 ∷ (laid 1 m.trailer
            ++ [])),
        length-append (laid 1 m.trailer) [],
      );
    }

pub total-laid : (m : Message) → fields_in 1 (laid 0 (parts m)) ≡ field_total m
unfolding field_total
total-laid m = fields-parts m
