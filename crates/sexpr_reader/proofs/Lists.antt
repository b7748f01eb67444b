-- Lists that are made from their elements.
use Rattle.std.proofs.Common.{◌≡◌, ◌==◌, ◌-◌, false, reverse, Ok, List, [], ◌∷◌, ◌++◌, length, map, get_or, Some, None}
use Rattle.std.proofs.Common.{refl, sym, ap, ◌∙◌, arith}
use Rattle.std.specs.List.{slice_get}
use Rattle.std.proofs.lemmas.Option.{slice_get-get_or}
use Rattle.std.proofs.lemmas.List.{map-append}
use Rattle.sexpr_reader.specs.declared.sexps.Sexp.{Sexp}
use Rattle.sexpr_reader.specs.Datum.{Datums, datum_then}
use Rattle.sexpr_reader.specs.Reader.{in_row, ended, not_empty}
use Rattle.sexpr_reader.specs.View.{datum_of}
use Rattle.sexpr_reader.specs.Parts.{open_list_of}
use Rattle.sexpr_reader.specs.declared.readers.OpenList.{OpenList as ReaderList}
use Rattle.sexpr_reader.proofs.Rows.{onto, onto-push}

-- the last element goes before the row
pub onto-pop : (old new : List Sexp) (last : Sexp) (row whole : Datums) → old ≡ new ++ last ∷ []
    → onto (map datum_of old) row ≡ whole → onto (map datum_of new) (datum_then (datum_of last) row) ≡ whole
onto-pop old new last row whole e h =
    sym (onto-push (map datum_of new) (datum_of last) row)
    ∙ ap (λ l. onto l row) (sym (map-append datum_of new (last ∷ [])))
    ∙ ap (λ l. onto (map datum_of l) row) (sym e) ∙ h

-- a list without a last element has none
pub nil_from_last : {A : Type 0} (xs : List A) → None ≡ slice_get xs (length xs - 1) → xs ≡ []
nil_from_last [] e = refl
nil_from_last (x ∷ xs) e =
    let some : slice_get (x ∷ xs) (length (x ∷ xs) - 1)
    ≡ Some (get_or (x ∷ xs) (length (x ∷ xs) - 1) x) =
    slice_get-get_or (x ∷ xs) (length (x ∷ xs) - 1) x (omega arith) in
    cc

-- what was read, where no list is open and there are s-expressions
pub ended-some : (around : List ReaderList) (items : List Sexp) (ds : Datums) → around ≡ []
    → (length items == 0) ≡ false → ds ≡ in_row (map datum_of items) →
    not_empty (ended (reverse (map open_list_of around)) (map datum_of items)) ≡ Ok ds
ended-some around items ds none some e =
    ap (λ l. not_empty (ended (reverse (map open_list_of l)) (map datum_of items))) none ∙ by_items items some
    ∙ ap (λ x. Ok x) (sym e)
  where
    by_items : (xs : List Sexp) → (length xs == 0) ≡ false
        → not_empty (ended [] (map datum_of xs)) ≡ Ok (in_row (map datum_of xs))
    by_items [] some = cc
    by_items (x ∷ xs) some = refl
