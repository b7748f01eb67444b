-- Turns of the loops that make groups.
use Rattle.std.proofs.Common.{◌≡◌, ℕ, suc, ◌+◌, List, refl, ap, ◌∙◌, arith}
use Rattle.low_ir.specs.declared.code.WordOp.TheVariants.{Add}
use Rattle.low_ir.specs.declared.code.LowSource.TheVariants.{Word, Number}
use Rattle.low_ir.specs.Procedures.{Code, Compute, CodeOf}
use Rattle.lowered_code.specs.declared.numbering.Shape.{Shape}
use Rattle.lowered_code.specs.declared.steps.Step.{Step}
use Rattle.lowered_code.specs.declared.steps.Step.TheVariants.{Compute as ComputeStep, CodeOf as CodeOfStep}
use Rattle.lowered_code.specs.Numbering.{local_word, operand_word, test_word, function_offset}
use Rattle.lowered_code.specs.Emit.{header, name_others, store_others, store_far}
use Rattle.lowered_code.specs.Steps.{put, ahead, Adds}
use Rattle.object_layout.specs.Kinds.{kind_number}
use Rattle.object_layout.specs.declared.kinds.Kind.TheVariants.{Closure}

-- a function more has its local name
pub name_more : (s : Shape) (slot captured place left less next word first offset level : ℕ) (a b start : List Step)
    (whole : Code → Code) → ((k : Code) → ahead a (name_others s slot captured place left k) ≡ ahead start (whole k))
    → Adds a b (put (ComputeStep Add word (Word first) (Number offset)))
    → level ≡ slot + place → word ≡ local_word s level → first ≡ local_word s slot
    → offset ≡ function_offset captured place → next ≡ place + 1 → left ≡ suc less
    → (k : Code) → ahead b (name_others s slot captured next less k) ≡ ahead start (whole k)
name_more s slot captured place left less next word first offset level a b start whole kept added l w f o n e k =
    let up : next ≡ suc place = omega arith in
    let same : Compute Add word (Word first) (Number offset) (name_others s slot captured next less k)
    ≡ name_others s slot captured place left k = rw (w, l, f, o, up, e) refl in
    added (name_others s slot captured next less k) ∙ ap (ahead a) same ∙ kept k

-- a function more is stored
pub store_more : (s : Shape) (d captured first place left less next test address one offset number : ℕ)
    (a b c e start : List Step) (whole : Code → Code)
    → ((k : Code) → ahead a (store_others s d captured first place left k) ≡ ahead start (whole k))
    → Adds a b (λ k. store_far test d (Number one) offset k) → Adds b c (put (CodeOfStep address number))
    → Adds c e (λ k. store_far test d (Word address) (offset + 8) k)
    → test ≡ test_word s → address ≡ operand_word s 0 → one ≡ header (kind_number Closure) 1 → offset
    ≡ function_offset captured place
    → number ≡ first + place → next ≡ place + 1 → left ≡ suc less
    → (k : Code) → ahead e (store_others s d captured first next less k) ≡ ahead start (whole k)
store_more s d captured first place left less next test address one offset number a b c e start whole kept x y z t w
    o f i n q k =
    let up : next ≡ suc place = omega arith in
    let rest = store_others s d captured first next less k in
    let same : store_far test d (Number one) offset (CodeOf address number (
    store_far test d (Word address) (offset + 8) rest))
    ≡ store_others s d captured first place left k = rw (t, w, o, f, i, up, q) refl in
    z rest ∙ y (store_far test d (Word address) (offset + 8) rest)
    ∙ x (CodeOf address number (store_far test d (Word address) (offset + 8) rest)) ∙ ap (ahead a) same ∙ kept k
