-- The rows of the walk over parameters, by what is known of their elements.
use Rattle.std.proofs.Common.{◌≡◌, ◌≢◌, ◌-◌, ◌++◌, ℕ, zero, suc, Bool, List, [], ◌∷◌, Some}
use Rattle.std.proofs.Common.{refl, ap, ◌∙◌, sym, subst, arith, append_assoc}
use Rattle.std.specs.Prelude.{Result, Err, IsErrAnd}
use Rattle.grift_base.specs.declared.places.Pos.{Pos}
use Rattle.grift_base.specs.declared.refusals.RefusalKind.{RefusalKind}
use Rattle.grift_base.specs.declared.refusals.RefusalKind.TheVariants.{BadForm, TooWide}
use Rattle.grift_base.specs.declared.refusals.FrontFault.{FrontFault}
use Rattle.grift_base.specs.declared.refusals.FrontFault.TheVariants.{Refused, OutOfMemory}
use Rattle.form_table.specs.declared.words.Mark.{Mark}
use Rattle.form_table.specs.declared.words.Mark.TheVariants.{Reserved, Free}
use Rattle.surface_trees.specs.declared.types.Param.{Param as RustParam}
use Rattle.surface_trees.specs.declared.names.Ident.TheVariants.{Source}
use Rattle.form_table.specs.Marked.{Sexpr, Sexprs, list, end, ◌▹◌, place, marked_symbol}
use Rattle.surface_trees.specs.Trees.{Param, TypeExpr}
use Rattle.form_table.specs.Walking.{Walked, Reads, Refuses, followed_by, binder, colon}
use Rattle.form_table.specs.Walk.{plain_param, walk_param, walk_params, walk_param_list, walk_type}
use Rattle.surface_syntax.specs.Elements.{three_of}
use Rattle.surface_syntax.specs.Parts.{typed_name}
use Rattle.surface_trees.specs.Views.{source_of, param_of, params_of, named_param_of}
use Rattle.form_table.specs.Claims.{Answers}
use Rattle.form_table.proofs.Public.{colon_lacks, colon_stands, place_marked, place_symbol, reads_then, refuses_then}
use Rattle.form_table.proofs.Public.{stopped, went_out}

pub symbol_param : (seen : List (List ℕ)) (p : Pos) (x : List ℕ) (m : Mark)
    → walk_param seen (marked_symbol p x m) ≡ plain_param seen (marked_symbol p x m)
symbol_param seen p x (Reserved w) = refl
symbol_param seen p x (Free t) = refl

-- a parameter between brackets with this name and this type
abbrev pub param_at : Pos → List ℕ × TypeExpr → List ℕ × Param
param_at p typed = (typed.0, record { place = p; name = Source typed.0; written = Some typed.1 })

-- such a parameter is three elements, which are a name with its type
pub typed_row : (seen : List (List ℕ)) (p : Pos) (ds : Sexprs) → walk_param seen (list p ds)
    ≡ followed_by (three_of p ds) (λ three. followed_by (typed_name seen three.first three.second three.third)
    (λ typed. Reads (param_at p typed)))
unfolding followed_by
typed_row seen p end = refl
typed_row seen p (x ▹ end) = refl
typed_row seen p (x ▹ c ▹ end) = refl
typed_row seen p (x ▹ c ▹ t ▹ end) = in_turn (binder seen x) (colon c) (walk_type t)
  where
    in_turn : (named : Walked (List ℕ)) (done : Walked Bool) (type : Walked TypeExpr)
        → followed_by named (λ bytes. followed_by done (λ done. followed_by type
        (λ type. Reads (param_at p (bytes, type)))))
        ≡ followed_by (followed_by {B = List ℕ × TypeExpr} named (λ bytes. followed_by done (λ done. followed_by type
        (λ type. Reads (bytes, type))))) (λ typed. Reads (param_at p typed))
    in_turn (Reads bytes) (Reads done) (Reads type) = refl
    in_turn (Reads bytes) (Reads done) (Refuses kind q) = refl
    in_turn (Reads bytes) (Refuses kind q) type = refl
    in_turn (Refuses kind q) done type = refl
typed_row seen p (x ▹ c ▹ t ▹ d ▹ rest) = refl

pub no_param_list : (p : Pos) (x : List ℕ) (m : Mark) → walk_param_list (marked_symbol p x m) ≡ Refuses BadForm p
no_param_list p x (Reserved w) = refl
no_param_list p x (Free t) = refl

-- these parameters, and those that are read behind them
abbrev pub behind_params : List Param → Walked (List Param) → Walked (List Param)
behind_params before (Reads others) = Reads (before ++ others)
behind_params before (Refuses kind p) = Refuses kind p

pub params_full : (before : List Param) (room : ℕ) (seen : List (List ℕ)) (s : Sexpr) (rest : Sexprs)
    (w : Walked (List Param))
    → room ≡ 0 → behind_params before (walk_params room seen (s ▹ rest)) ≡ w → w ≡ Refuses TooWide (place s)
params_full before zero seen s rest w e same = sym same
params_full before (suc room) seen s rest w e same = absurd (omega arith)

pub params_refused : (before : List Param) (room : ℕ) (seen : List (List ℕ)) (s : Sexpr) (rest : Sexprs)
    (w : Walked (List Param)) (kind : RefusalKind) (p : Pos)
    → room ≢ 0 → walk_param seen s ≡ Refuses kind p → behind_params before (walk_params room seen (s ▹ rest)) ≡ w
    → w ≡ Refuses kind p
unfolding followed_by
params_refused before zero seen s rest w kind p some e same = absurd (some refl)
params_refused before (suc room) seen s rest w kind p some e same =
    sym same ∙ ap (λ one. behind_params before
    (followed_by one (λ one. followed_by (walk_params room (seen ++ one.0 ∷ []) rest)
    (λ others. Reads (one.1 ∷ others))))) e

params_stop : {R S : Type 0} (before : List Param) (room : ℕ) (seen : List (List ℕ)) (s : Sexpr) (rest : Sexprs)
    (view : R → List ℕ × Param) (wider : S → List Param) (w : Walked (List Param)) (fault : FrontFault)
    → room ≢ 0 → Answers (stopped {R = R} fault) view (walk_param seen s)
    → behind_params before (walk_params room seen (s ▹ rest)) ≡ w → Answers (stopped {R = S} fault) wider w
params_stop before room seen s rest view wider w (Refused refusal) some h same =
    params_refused before room seen s rest w refusal.kind refusal.pos some h same
params_stop before room seen s rest view wider w OutOfMemory some h same = tt

-- the exit of a `?` at a parameter
pub params_exit : {R S : Type 0} (before : List Param) (room : ℕ) (seen : List (List ℕ)) (s : Sexpr) (rest : Sexprs)
    (view : R → List ℕ × Param) (wider : S → List Param) (w : Walked (List Param)) (fault : FrontFault)
    (given : Result R FrontFault) (result : Result S FrontFault)
    → given ≡ Err fault → IsErrAnd result (λ f. f ≡ fault) → room ≢ 0 → Answers given view (walk_param seen s)
    → behind_params before (walk_params room seen (s ▹ rest)) ≡ w → Answers result wider w
params_exit before room seen s rest view wider w fault given result e f some h same =
    subst (λ r. Answers r wider w) (sym (went_out result fault f))
    (params_stop before room seen s rest view wider w fault some
    (subst (λ g. Answers g view (walk_param seen s)) e h) same)

behind_one : (before : List Param) (param : Param) (others : Walked (List Param))
    → behind_params before (followed_by others (λ others. Reads (param ∷ others)))
    ≡ behind_params (before ++ param ∷ []) others
unfolding followed_by
behind_one before param (Reads others) = ap Reads (sym (append_assoc before (param ∷ []) others))
behind_one before param (Refuses kind p) = refl

pub params_more : (before : List RustParam) (param : RustParam) (room : ℕ) (seen next : List (List ℕ)) (s : Sexpr)
    (rest : Sexprs) (w : Walked (List Param))
    → room ≢ 0 → walk_param seen s ≡ Reads (named_param_of param) → next ≡ seen ++ source_of param.name ∷ []
    → behind_params (params_of before) (walk_params room seen (s ▹ rest)) ≡ w
    → behind_params (params_of (before ++ param ∷ [])) (walk_params (room - 1) next rest) ≡ w
unfolding followed_by
params_more before param zero seen next s rest w some e bound same = absurd (some refl)
params_more before param (suc room) seen next s rest w some e bound same =
    let less : suc room - 1 ≡ room = omega arith in
    rw (less, bound) (ap (λ b. behind_params b (walk_params room (seen ++ source_of param.name ∷ []) rest))
    (params_last before param)
    ∙ sym (behind_one (params_of before) (param_of param) (walk_params room (seen ++ source_of param.name ∷ []) rest))
    ∙ sym (ap (λ one. behind_params (params_of before) (followed_by one (λ one. followed_by
    (walk_params room (seen ++ one.0 ∷ []) rest) (λ others. Reads (one.1 ∷ others))))) e)
    ∙ same)
  where
    params_last : (before : List RustParam) (param : RustParam)
        → params_of (before ++ param ∷ []) ≡ params_of before ++ param_of param ∷ []
    params_last [] param = refl
    params_last (b ∷ before) param = ap (λ ps. param_of b ∷ ps) (params_last before param)

pub ruleset param_steps = (
  reads_then,
  refuses_then,
  place_symbol,
  place_marked,
  colon_stands,
  colon_lacks,
  symbol_param,
  typed_row,
  no_param_list,
)
