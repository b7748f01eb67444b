-- What is asked of the procedures that serve lowered programs, whatever waits for them.
use Rattle.std.specs.Prelude.{◌≡◌, ℕ, ◌*◌, ◌-◌, ◌%◌, ◌^◌, ◌<◌, ◌≤◌, ◌==◌, false, [], ◌∷◌, Some, slice_get}
use Rattle.std.specs.Prelude.{int_rem}
use Rattle.std.specs.Int.{int_wrapping_div, w64}
use Rattle.grift_base.specs.declared.verdicts.Trap.TheVariants.{ZeroDivisor}
use Rattle.machine_words.specs.Halts.{ending_of}
use Rattle.machine_words.specs.Arithmetic.{signed_of, word_of}
use Rattle.low_ir.specs.Procedures.{Proc}
use Rattle.low_ir.specs.Run.{Setting, LowState}
use Rattle.rt_refs.specs.Answering.{AnswersFor, TrapsFor}
use Rattle.lowered_code.specs.declared.served.Served.{Served}

-- a procedure has this number, takes so many words, and has no more than those that serve may have
pub record StandsAs (setting : Setting) (number : ℕ) (p : Proc) (params : ℕ) : Type 0 where
  pub there : slice_get setting.procs number ≡ Some p
  pub takes : p.params ≡ params
  pub few : params ≤ 8
  pub room : params ≤ p.words
  pub small : p.words ≤ 24

-- what a product, quotient or remainder may cost: its budget, less what is left for the code that called
abbrev pub product_price : ℕ
product_price = 32768 - 500

-- products, quotients and remainders are answered, and a divisor 0 traps
pub record AnswerProducts (setting : Setting) (run : Served) : Type 0 where
  pub multiply : Proc
  pub multiply_stands : StandsAs setting run.multiply multiply 2
  pub products : (s : LowState) (a b : ℕ) → a < 2 ^ 64 → b < 2 ^ 64
      → (most : ℕ) × AnswersFor ending_of setting s multiply (a ∷ b ∷ []) (a * b % 2 ^ 64) most product_price
  pub divide : Proc
  pub divide_stands : StandsAs setting run.divide divide 3
  pub quotients : (s : LowState) (n d : ℕ) → n < 2 ^ 64 → d < 2 ^ 64 → (d == 0) ≡ false
      → (most : ℕ) × AnswersFor ending_of setting s divide (n ∷ d ∷ 0 ∷ [])
      (word_of (int_wrapping_div w64 (signed_of n) (signed_of d))) most product_price
  pub remainders : (s : LowState) (n d : ℕ) → n < 2 ^ 64 → d < 2 ^ 64 → (d == 0) ≡ false
      → (most : ℕ) × AnswersFor ending_of setting s divide (n ∷ d ∷ 1 ∷ [])
      (word_of (int_rem (signed_of n) (signed_of d))) most product_price
  pub zero_divisors : (s : LowState) (n which : ℕ)
      → (most : ℕ) × TrapsFor ending_of setting s divide (n ∷ 0 ∷ which ∷ []) ZeroDivisor most product_price
