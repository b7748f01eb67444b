-- The rows of the walk over types, by what is known of their elements.
use Rattle.std.proofs.Common.{◌≡◌, ◌≢◌, ◌-◌, ℕ, zero, suc, true, false, cond, List, Some, refl, ap, ◌∙◌, arith}
use Rattle.grift_base.specs.declared.places.Pos.{Pos}
use Rattle.grift_base.specs.declared.refusals.RefusalKind.{RefusalKind}
use Rattle.grift_base.specs.declared.refusals.RefusalKind.TheVariants.{BadForm, TooWide}
use Rattle.form_table.specs.declared.words.Word.{Word}
use Rattle.form_table.specs.declared.words.Word.TheVariants.{Arrow}
use Rattle.sexpr_reader.specs.declared.sexps.SexpNode.{SexpNode}
use Rattle.sexpr_reader.specs.declared.sexps.SexpNode.TheVariants.{Int as IntCase, Bool as BoolCase}
use Rattle.sexpr_reader.specs.declared.sexps.SexpNode.TheVariants.{Symbol as SymbolCase, List as ListCase}
use Rattle.sexpr_reader.specs.declared.sexps.SexpList.{SexpList}
use Rattle.sexpr_reader.specs.declared.sexps.SexpList.TheVariants.{Nil, Cons'}
use Rattle.sexpr_reader.specs.View.{datum_at, datums_of}
use Rattle.form_table.specs.declared.words.Mark.{Mark}
use Rattle.form_table.specs.declared.words.Mark.TheVariants.{Reserved, Free}
use Rattle.form_table.specs.Words.{is_colon_word, is_arrow_word, is_lambda_word, is_define_word, mark_of}
use Rattle.form_table.specs.Marked.{Sexpr, Sexprs, number, truth_value, word, name, list, ◌▹◌, place, reserved_at}
use Rattle.form_table.specs.Marked.{marked, all_marked, marked_symbol}
use Rattle.surface_trees.specs.Trees.{TypeThen, NoTypes}
use Rattle.form_table.specs.Walking.{Walked, Reads, Refuses, followed_by, test, colon, is_colon, is_arrow_at}
use Rattle.form_table.specs.Walking.{is_lambda_at, is_define_at, is_arrow, is_result}
use Rattle.form_table.specs.Walk.{walk_type, walk_only, walk_types, walk_signature}

-- where a reserved word stands, nothing else does
pub reserved_is : (s : Sexpr) (w : Word) → reserved_at s ≡ Some w → s ≡ word (place s) w
reserved_is (word p v) w e = let same : v ≡ w = cc in ap (word p) same
reserved_is (number p n) w e = absurd (let z : ⊥ = cc in z)
reserved_is (truth_value p b) w e = absurd (let z : ⊥ = cc in z)
reserved_is (name p x t) w e = absurd (let z : ⊥ = cc in z)
reserved_is (list p elements) w e = absurd (let z : ⊥ = cc in z)

pub colon_at : (s : Sexpr) (w : Word) → reserved_at s ≡ Some w → is_colon s ≡ is_colon_word w
colon_at s w e = ap is_colon (reserved_is s w e)

pub arrow_at : (s : Sexpr) (w : Word) → reserved_at s ≡ Some w → is_arrow_at s ≡ is_arrow_word w
arrow_at s w e = ap is_arrow_at (reserved_is s w e)

pub lambda_at : (s : Sexpr) (w : Word) → reserved_at s ≡ Some w → is_lambda_at s ≡ is_lambda_word w
lambda_at s w e = ap is_lambda_at (reserved_is s w e)

pub define_at : (s : Sexpr) (w : Word) → reserved_at s ≡ Some w → is_define_at s ≡ is_define_word w
define_at s w e = ap is_define_at (reserved_is s w e)

-- ---- places

pub place_symbol : (p : Pos) (x : List ℕ) (m : Mark) → place (marked_symbol p x m) ≡ p
place_symbol p x (Reserved w) = refl
place_symbol p x (Free t) = refl

pub place_marked : (p : Pos) (node : SexpNode) → place (marked (datum_at p node)) ≡ p
place_marked p (IntCase n) = refl
place_marked p (BoolCase b) = refl
place_marked p (SymbolCase x) = place_symbol p x (mark_of x)
place_marked p (ListCase l) = refl

-- ---- the arrow and the colon

pub arrow_found : (s : Sexpr) (rest : Sexprs) → is_arrow_at s ≡ true → is_arrow (s ▹ rest) ≡ is_result rest
arrow_found s rest e = ap (λ b. cond b (is_result rest) (is_arrow rest)) e

pub arrow_behind : (s : Sexpr) (rest : Sexprs) → is_arrow_at s ≡ false → is_arrow (s ▹ rest) ≡ is_arrow rest
arrow_behind s rest e = ap (λ b. cond b (is_result rest) (is_arrow rest)) e

pub colon_stands : (s : Sexpr) → is_colon s ≡ true → colon s ≡ Reads true
colon_stands s e = ap (λ b. test b BadForm (place s)) e

pub colon_lacks : (s : Sexpr) → is_colon s ≡ false → colon s ≡ Refuses BadForm (place s)
colon_lacks s e = ap (λ b. test b BadForm (place s)) e

pub ruleset list_steps = (
  colon_at,
  arrow_at,
  lambda_at,
  define_at,
  place_symbol,
  place_marked,
  arrow_found,
  arrow_behind,
  colon_stands,
  colon_lacks,
)

-- ---- one line of a walk after another

pub reads_then : {A B : Type 0} (a : A) (next : A → Walked B) → followed_by (Reads a) next ≡ next a
unfolding followed_by
reads_then a next = refl

pub refuses_then : {A B : Type 0} (kind : RefusalKind) (p : Pos) (next : A → Walked B)
    → followed_by (Refuses kind p) next ≡ Refuses kind p
unfolding followed_by
refuses_then kind p next = refl

-- ---- rows of types

-- one type and no more
pub only_one : {a : _} {b : _} (p : Pos) {q : Pos} {node : SexpNode} (elements : SexpList) {rest : SexpList}
    → elements ≡ Cons' a q node b rest → rest ≡ Nil
    → walk_only p (all_marked (datums_of elements)) ≡ walk_type (marked (datum_at q node))
only_one p {q = q} {node = node} elements e f =
    ap (λ l. walk_only p (all_marked (datums_of l))) e
    ∙ ap (λ r. walk_only p (marked (datum_at q node) ▹ all_marked (datums_of r))) f

pub types_full : (room : ℕ) (t : Sexpr) (rest : Sexprs) → room ≡ 0
    → walk_types room (t ▹ rest) ≡ Refuses TooWide (place t)
types_full zero t rest e = refl
types_full (suc room) t rest e = absurd (omega arith)

pub types_more : (room : ℕ) (t : Sexpr) (rest : Sexprs) → room ≢ 0 → walk_types room (t ▹ rest)
    ≡ followed_by (walk_type t) (λ type. followed_by (walk_types (room - 1) rest)
    (λ types. Reads (TypeThen type types)))
types_more zero t rest e = absurd (e refl)
types_more (suc room) t rest e =
    let same : room ≡ suc room - 1 = omega arith in
    ap (λ n. followed_by (walk_type t) (λ type. followed_by (walk_types n rest)
    (λ types. Reads (TypeThen type types)))) same

pub signature_end : (room : ℕ) (s : Sexpr) (rest : Sexprs) → is_arrow_at s ≡ true → walk_signature room (s ▹ rest)
    ≡ followed_by (walk_only (place s) rest) (λ result. Reads (record { parameters = NoTypes; result = result }))
signature_end zero (word q Arrow) rest e = refl
signature_end (suc room) (word q Arrow) rest e = refl
signature_end _ _ rest e = absurd (let z : ⊥ = cc in z)

pub signature_full : (room : ℕ) (s : Sexpr) (rest : Sexprs) → is_arrow_at s ≡ false → room ≡ 0
    → walk_signature room (s ▹ rest) ≡ Refuses TooWide (place s)
signature_full zero (word q Arrow) rest e m = absurd (let z : ⊥ = cc in z)
signature_full zero _ rest e m = refl
signature_full (suc room) s rest e m = absurd (omega arith)

pub signature_next : (room : ℕ) (s : Sexpr) (rest : Sexprs) → is_arrow_at s ≡ false
    → walk_signature (suc room) (s ▹ rest)
    ≡ followed_by (walk_type s) (λ type. followed_by (walk_signature room rest) (λ others.
    Reads (record { parameters = TypeThen type others.parameters; result = others.result })))
signature_next room (word q Arrow) rest e = absurd (let z : ⊥ = cc in z)
signature_next room _ rest e = refl

pub signature_more : (room : ℕ) (s : Sexpr) (rest : Sexprs) → is_arrow_at s ≡ false → room ≢ 0
    → walk_signature room (s ▹ rest)
    ≡ followed_by (walk_type s) (λ type. followed_by (walk_signature (room - 1) rest) (λ others.
    Reads (record { parameters = TypeThen type others.parameters; result = others.result })))
signature_more zero s rest e m = absurd (m refl)
signature_more (suc room) s rest e n =
    let same : room ≡ suc room - 1 = omega arith in
    signature_next room s rest e ∙ ap (λ n. followed_by (walk_type s)
    (λ type. followed_by (walk_signature n rest) (λ others.
    Reads (record { parameters = TypeThen type others.parameters; result = others.result })))) same

pub ruleset walk_steps = (
  reads_then,
  refuses_then,
  place_symbol,
  place_marked,
  types_full,
  types_more,
  signature_end,
  signature_full,
  signature_more,
)
