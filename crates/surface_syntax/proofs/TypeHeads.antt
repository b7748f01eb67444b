-- The type that a list writes, by its first element.
use Rattle.std.proofs.Common.{◌≡◌, Some, None, refl, sym, ap, ◌∙◌}
use Rattle.grift_base.specs.declared.places.Pos.{Pos}
use Rattle.form_table.specs.declared.words.TypeWord.TheVariants.{Int, Bool as BoolWord, Unit as UnitWord, Dyn}
use Rattle.form_table.specs.declared.words.TypeWord.TheVariants.{Tuple as TupleWord, Ref, Vect, Rec}
use Rattle.sexpr_reader.specs.declared.sexps.SexpList.{SexpList}
use Rattle.sexpr_reader.specs.declared.sexps.SexpList.TheVariants.{Nil, Cons'}
use Rattle.sexpr_reader.specs.View.{datum_at, datums_of}
use Rattle.form_table.specs.Marked.{Sexpr, Sexprs, number, truth_value, word, name, list, ◌▹◌, marked, all_marked}
use Rattle.surface_syntax.specs.declared.type_forms.TypeHead.{TypeHead}
use Rattle.surface_syntax.specs.Parts.{type_head, headed_type}
use Rattle.form_table.specs.Walk.{walk_type}

pub headed_is : (p : Pos) (s : Sexpr) (rest : Sexprs)
    → walk_type (list p (s ▹ rest)) ≡ headed_type (type_head s) p (s ▹ rest)
headed_is p (name q x (Some Int)) rest = refl
headed_is p (name q x (Some BoolWord)) rest = refl
headed_is p (name q x (Some UnitWord)) rest = refl
headed_is p (name q x (Some Dyn)) rest = refl
headed_is p (name q x (Some TupleWord)) rest = refl
headed_is p (name q x (Some Ref)) rest = refl
headed_is p (name q x (Some Vect)) rest = refl
headed_is p (name q x (Some Rec)) rest = refl
headed_is p (name q x None) rest = refl
headed_is p (word q w) rest = refl
headed_is p (number q n) rest = refl
headed_is p (truth_value q b) rest = refl
headed_is p (list q l) rest = refl

-- which type a list writes by its first element
abbrev pub HeadIs : TypeHead → SexpList → Type 0
HeadIs head Nil = ⊥
HeadIs head (Cons' a p node b rest) = head ≡ type_head (marked (datum_at p node))

pub headed_here : (p : Pos) (elements : SexpList) (head : TypeHead) → HeadIs head elements
    → walk_type (list p (all_marked (datums_of elements))) ≡ headed_type head p (all_marked (datums_of elements))
headed_here p Nil head h = absurd h
headed_here p (Cons' a q node b rest) head h =
    headed_is p (marked (datum_at q node)) (all_marked (datums_of rest))
    ∙ ap (λ t. headed_type t p (marked (datum_at q node) ▹ all_marked (datums_of rest))) (sym h)
