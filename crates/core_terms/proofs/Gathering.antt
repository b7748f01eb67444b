-- What loops keep that go along a list and gather what they make of it.
use Rattle.std.proofs.Common.{◌≡◌, ◌≤◌, ◌∙◌, ◌++◌, ◌∷◌, [], ℕ, List, ap, ap₂, append_assoc}
use Rattle.std.proofs.Common.{Result}
use Rattle.std.specs.Global.{Box}
use Rattle.std.specs.Prelude.{IfOk}
use Rattle.std.proofs.lemmas.Result.{IfOk-weaker}
use Rattle.grift_base.specs.declared.lists.OutOfMemory.{OutOfMemory}
use Rattle.core_calc.specs.Terms.{Term}
use Rattle.core_calc.specs.Views.{term_of}
use Rattle.core_calc.specs.declared.terms.Core.{Core}
use Rattle.core_terms.specs.Holes.{Holes}

-- what is left, with what is done in front of it, is the whole, and is no larger
abbrev pub Copying : {L A : Type 0} → (A → A → A) → (L → A) → (L → ℕ) → L → L → L → Type 0
Copying onto view size done left all = record {
  whole : onto (view done) (view left) ≡ view all;
  smaller : size left ≤ size all;
}

-- what is left with its holes filled, and in front of it what is done, is the whole
abbrev pub Filling : {L A : Type 0} → (A → A → A) → (A → Holes → A) → (A → Holes → Holes) → (L → A) → (L → ℕ) → L → L →
    L → Holes → Holes → Type 0
Filling onto filled behind view size done left all holes first = record {
  whole : onto (view done) (filled (view left) holes) ≡ filled (view all) first;
  rest : behind (view left) holes ≡ behind (view all) first;
  smaller : size left ≤ size all;
}

-- a term that was made and put into a box
pub term_boxed : (r : Result (Box Core) OutOfMemory) (made : Core) (term : Term) → IfOk r (λ b. b.value ≡ made) →
    term_of made ≡ term → IfOk r (λ b. term_of b.value ≡ term)
term_boxed r made term e same =
    IfOk-weaker r (λ b. b.value ≡ made) (λ b. term_of b.value ≡ term) (λ b h. ap term_of h ∙ same) e

-- a name more, and what is left behind it
pub name_pushed : (done pushed others left whole : List ℕ) (given name : ℕ) → pushed ≡ done ++ given ∷ [] →
    left ≡ others → given ≡ name → done ++ name ∷ others ≡ whole → pushed ++ left ≡ whole
name_pushed done pushed others left whole given name more behind same e =
    ap₂ ◌++◌ more behind ∙ append_assoc done (given ∷ []) others ∙ ap (λ n. done ++ n ∷ others) same ∙ e
