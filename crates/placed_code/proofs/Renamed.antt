-- Renamed items one after another: their numbers still fit, and procedures have no more slots than registers.
use Rattle.std.proofs.Common.{ℕ, suc, ◌+◌, ◌≡◌, true, List, [], ◌∷◌, ◌++◌, refl, sym, ◌∙◌, ap, subst}
use Rattle.std.proofs.Common.{append_assoc, get_or, drop, drop-cons, add-one}
use Rattle.std.specs.Prelude.{◌<◌, ◌^◌, ◌&&◌, length}
use Rattle.rv_select.specs.declared.code.Place.{Place}
use Rattle.rv_select.specs.Holding.{place_of}
use Rattle.placed_code.specs.Slotted.{HasFew, EachHasFew}
use Rattle.rv_select.specs.declared.code.VReg.{VReg}
use Rattle.rv_select.specs.declared.code.VirtualItem.{VirtualItem}
use Rattle.rv_select.specs.declared.code.VirtualItem.TheVariants.{Constant, Move, Compute, ComputeWith, Load, Store}
use Rattle.rv_select.specs.declared.code.VirtualItem.TheVariants.{CodeOf, Mark, Procedure, Jump, Branch, Call, CallAt}
use Rattle.rv_select.specs.declared.code.VirtualItem.TheVariants.{TailCall, TailCallAt, Return, Environment}
use Rattle.rv_select.specs.Fitting.{fits, each_fits}
use Rattle.placed_code.specs.Rename.{Naming, name, named, rename, rename_all, renamed, densely}
use Rattle.placed_code.specs.Rename.{kept_in, index_of}

fits_on : (f : VReg → VReg) (item : VirtualItem) → fits (rename f item) ≡ fits item
fits_on f (Constant rd word) = refl
fits_on f (Move rd a) = refl
fits_on f (Compute op rd a b) = refl
fits_on f (ComputeWith op rd a n) = refl
fits_on f (Load rd a offset) = refl
fits_on f (Store b a offset) = refl
fits_on f (CodeOf rd k) = refl
fits_on f (Mark mark) = refl
fits_on f (Procedure k first count) = refl
fits_on f (Jump mark) = refl
fits_on f (Branch cond a b mark) = refl
fits_on f (Call k n) = refl
fits_on f (CallAt a n) = refl
fits_on f (TailCall k n) = refl
fits_on f (TailCallAt a n) = refl
fits_on f Return = refl
fits_on f Environment = refl

all_fit : (w : Naming) (first count : ℕ) (items : List VirtualItem)
    → each_fits (rename_all w first count items) ≡ each_fits items
all_fit w first count [] = refl
all_fit w first count (Procedure k f c ∷ rest) = all_fit w f c rest
all_fit w first count (item ∷ rest) =
    ap (λ b. b && each_fits (rename_all w first count rest)) (fits_on (name w first count) item)
    ∙ ap (λ b. fits item && b) (all_fit w first count rest)

-- where the small numbers of a code are small enough, so are those of the renamed code
pub renamed_fit : (w : Naming) (items : List VirtualItem) → each_fits items ≡ true → each_fits (renamed w items) ≡ true
renamed_fit w items h = all_fit w 0 0 items ∙ h

-- ---- one more item

-- a procedure's mark gets the number of its slots, and its registers count from then on
pub put_procedure : (place : ℕ → Place) (first count k f c n : ℕ) (slots : List ℕ)
    (done done' all rest rest' : List VirtualItem) → rest ≡ Procedure k f c ∷ rest' → slots ≡ kept_in place f c
    → n ≡ length slots → done' ≡ done ++ (Procedure k f n ∷ [])
    → done ++ rename_all (densely place) first count rest ≡ all → done' ++ rename_all (densely place) f c rest' ≡ all
put_procedure place first count k f c n slots done done' all rest rest' e s m d h =
    ap (λ xs. xs ++ rename_all (densely place) f c rest') d
    ∙ (append_assoc done (Procedure k f n ∷ []) (rename_all (densely place) f c rest')
    ∙ (ap (λ x. done ++ (Procedure k f x ∷ rename_all (densely place) f c rest')) (m ∙ ap length s)
    ∙ (ap (λ xs. done ++ rename_all (densely place) first count xs) (sym e) ∙ h)))

other_item : (w : Naming) (first count : ℕ) (item : VirtualItem) (rest : List VirtualItem)
    → ((k f c : ℕ) → item ≡ Procedure k f c → ⊥)
    → rename_all w first count (item ∷ rest) ≡ rename (name w first count) item ∷ rename_all w first count rest
other_item w first count (Procedure k f c) rest never = absurd (never k f c refl)
other_item w first count item rest never = refl

-- each other item is renamed
pub put_other : (place : ℕ → Place) (first count : ℕ) (slots : List ℕ) (item other : VirtualItem)
    (done done' all rest rest' : List VirtualItem) → ((k f c : ℕ) → item ≡ Procedure k f c → ⊥)
    → rest ≡ item ∷ rest' → slots ≡ kept_in place first count
    → other ≡ rename (λ a. named (λ slot. first + index_of slot slots) (place_of place a)) item
    → done' ≡ done ++ (other ∷ []) → done ++ rename_all (densely place) first count rest ≡ all
    → done' ++ rename_all (densely place) first count rest' ≡ all
put_other place first count slots item other done done' all rest rest' never e s o d h =
    ap (λ xs. xs ++ rename_all (densely place) first count rest') d
    ∙ (append_assoc done (other ∷ []) (rename_all (densely place) first count rest')
    ∙ (ap (λ x. done ++ (x ∷ rename_all (densely place) first count rest'))
    (o ∙ ap (λ xs. rename (λ a. named (λ slot. first + index_of slot xs) (place_of place a)) item) s)
    ∙ (ap (λ xs. done ++ xs) (sym (other_item (densely place) first count item rest' never))
    ∙ (ap (λ xs. done ++ rename_all (densely place) first count xs) (sym e) ∙ h))))

pub few_procedure : (k f c : ℕ) (rest rest' : List VirtualItem) (A : Type 0) → rest ≡ Procedure k f c ∷ rest'
    → c < 2 ^ 32 → (EachHasFew rest → A) → EachHasFew rest' → A
few_procedure k f c rest rest' A e l h few = h (subst EachHasFew (sym e) (l, few))

has_few : (item : VirtualItem) → ((k f c : ℕ) → item ≡ Procedure k f c → ⊥) → HasFew item
has_few (Procedure k f c) never = absurd (never k f c refl)
has_few item never = tt

pub few_other : (item : VirtualItem) (rest rest' : List VirtualItem) (A : Type 0)
    → ((k f c : ℕ) → item ≡ Procedure k f c → ⊥) → rest ≡ item ∷ rest' → (EachHasFew rest → A) → EachHasFew rest' → A
few_other item rest rest' A never e h few = h (subst EachHasFew (sym e) (has_few item never, few))

-- what is left from a place on
pub rest_is : (items : List VirtualItem) (i : ℕ) (item x : VirtualItem) → i < length items → item ≡ get_or items i item
    → item ≡ x → drop i items ≡ x ∷ drop (i + 1) items
rest_is items i item x l at is =
    drop-cons items i item l ∙ (ap (λ y. y ∷ drop (suc i) items) (sym at ∙ is)
    ∙ ap (λ n. x ∷ drop n items) (sym (add-one i)))
