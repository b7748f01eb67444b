-- An operator has a step on as many values as it takes, and on no other number of them.
use Rattle.std.proofs.Common.{◌≡◌, ℤ, pos, negsuc, Bool, true, false, List, [], ◌∷◌, Option, Some, None, refl, sym, ◌∙◌}
use Rattle.grift_base.specs.World.{WorldState}
use Rattle.grift_base.specs.Types.{TypeRows}
use Rattle.grift_base.specs.declared.operators.PrimOp.{PrimOp}
use Rattle.grift_base.specs.declared.operators.PrimOp.TheVariants.{Add, Sub, Mul, Quot, Rem, Lt, Le, Eq, Ge, Gt, Not}
use Rattle.grift_base.specs.declared.operators.PrimOp.TheVariants.{PrintInt, Newline, ReadInt, MakeBox, Unbox, BoxSet}
use Rattle.grift_base.specs.declared.operators.PrimOp.TheVariants.{MakeVector, VectorRef, VectorSet, VectorLength}
use Rattle.core_calc.specs.Terms.{Term, Value, IntValue, BoolValue, LocValue, WrapValue}
use Rattle.core_calc.specs.Outcome.{Store, Outcome, Stuck, with_some}
use Rattle.core_calc.specs.Operators.{on_int, on_ints, on_bool, unbox_step, box_set_step, make_vector_step}
use Rattle.core_calc.specs.Operators.{vector_ref_step, vector_set_step, vector_length_step, operator_step}
use Rattle.core_redexes.specs.Turns.{few, integers_step, on_integers, zero_step, one_step, two_step, three_step}

module _ (types : TypeRows) (store : Store) (world : WorldState) where
  -- ---- too few values

  one_integer : (go : ℤ → ℤ → Outcome Term) (a : Value) → on_ints types store world go (a ∷ []) ≡ Stuck
  one_integer go (IntValue n) = refl
  one_integer go _ = refl

  one_written_to_box : (a : Value) → box_set_step types store world (a ∷ []) ≡ Stuck
  one_written_to_box (LocValue cell false) = refl
  one_written_to_box (LocValue cell true) = refl
  one_written_to_box _ = refl

  one_for_vector : (a : Value) → make_vector_step types store world (a ∷ []) ≡ Stuck
  one_for_vector (IntValue (pos n)) = refl
  one_for_vector (IntValue (negsuc n)) = refl
  one_for_vector _ = refl

  one_read : (a : Value) → vector_ref_step types store world (a ∷ []) ≡ Stuck
  one_read (LocValue cell false) = refl
  one_read (LocValue cell true) = refl
  one_read _ = refl

  one_written : (a : Value) → vector_set_step types store world (a ∷ []) ≡ Stuck
  one_written (LocValue cell false) = refl
  one_written (LocValue cell true) = refl
  one_written _ = refl

  two_written_to_vector : (cell : Value) (b : Value) → vector_set_step types store world (cell ∷ b ∷ []) ≡ Stuck
  two_written_to_vector (LocValue cell false) b = refl
  two_written_to_vector (LocValue cell true) (IntValue i) = refl
  two_written_to_vector (LocValue cell true) _ = refl
  two_written_to_vector (WrapValue v from label to) (IntValue i) = refl
  two_written_to_vector (WrapValue v from label to) _ = refl
  two_written_to_vector _ b = refl

  -- ---- too many values

  more_integer : (go : ℤ → Outcome Term) (a b : Value) (rest : List Value) →
      on_int types store world go (a ∷ b ∷ rest) ≡ Stuck
  more_integer go (IntValue n) b rest = refl
  more_integer go _ b rest = refl

  more_integers : (go : ℤ → ℤ → Outcome Term) (a b c : Value) (rest : List Value) →
      on_ints types store world go (a ∷ b ∷ c ∷ rest) ≡ Stuck
  more_integers go (IntValue n) b c rest = more_integer (go n) b c rest
  more_integers go _ b c rest = refl

  more_truths : (go : Bool → Outcome Term) (a b : Value) (rest : List Value) →
      on_bool types store world go (a ∷ b ∷ rest) ≡ Stuck
  more_truths go (BoolValue t) b rest = refl
  more_truths go _ b rest = refl

  more_unboxed : (a b : Value) (rest : List Value) → unbox_step types store world (a ∷ b ∷ rest) ≡ Stuck
  more_unboxed (LocValue cell false) b rest = refl
  more_unboxed (LocValue cell true) b rest = refl
  more_unboxed _ b rest = refl

  more_written_to_box : (a b c : Value) (rest : List Value) →
      box_set_step types store world (a ∷ b ∷ c ∷ rest) ≡ Stuck
  more_written_to_box (LocValue cell false) b c rest = refl
  more_written_to_box (LocValue cell true) b c rest = refl
  more_written_to_box _ b c rest = refl

  more_for_vector : (a b c : Value) (rest : List Value) →
      make_vector_step types store world (a ∷ b ∷ c ∷ rest) ≡ Stuck
  more_for_vector (IntValue (pos n)) b c rest = refl
  more_for_vector (IntValue (negsuc n)) b c rest = refl
  more_for_vector _ b c rest = refl

  more_read : (a b c : Value) (rest : List Value) → vector_ref_step types store world (a ∷ b ∷ c ∷ rest) ≡ Stuck
  more_read (LocValue cell false) b c rest = refl
  more_read (LocValue cell true) (IntValue i) c rest = refl
  more_read (LocValue cell true) _ c rest = refl
  more_read _ b c rest = refl

  more_written : (a b c d : Value) (rest : List Value) →
      vector_set_step types store world (a ∷ b ∷ c ∷ d ∷ rest) ≡ Stuck
  more_written (LocValue cell false) b c d rest = refl
  more_written (LocValue cell true) (IntValue i) c d rest = refl
  more_written (LocValue cell true) _ c d rest = refl
  more_written (WrapValue v from label to) (IntValue i) c d rest = refl
  more_written (WrapValue v from label to) _ c d rest = refl
  more_written _ b c d rest = refl

  more_measured : (a b : Value) (rest : List Value) → vector_length_step types store world (a ∷ b ∷ rest) ≡ Stuck
  more_measured (LocValue cell false) b rest = refl
  more_measured (LocValue cell true) b rest = refl
  more_measured _ b rest = refl

  -- ---- operators on values, by their number

  -- no operator takes four values or more
  pub four_operands : (operator : PrimOp) (a b c d : Value) (rest : List Value) →
      operator_step types store world operator (a ∷ b ∷ c ∷ d ∷ rest) ≡ Stuck
  four_operands Add a b c d rest = more_integers _ a b c (d ∷ rest)
  four_operands Sub a b c d rest = more_integers _ a b c (d ∷ rest)
  four_operands Mul a b c d rest = more_integers _ a b c (d ∷ rest)
  four_operands Quot a b c d rest = more_integers _ a b c (d ∷ rest)
  four_operands Rem a b c d rest = more_integers _ a b c (d ∷ rest)
  four_operands Lt a b c d rest = more_integers _ a b c (d ∷ rest)
  four_operands Le a b c d rest = more_integers _ a b c (d ∷ rest)
  four_operands Eq a b c d rest = more_integers _ a b c (d ∷ rest)
  four_operands Ge a b c d rest = more_integers _ a b c (d ∷ rest)
  four_operands Gt a b c d rest = more_integers _ a b c (d ∷ rest)
  four_operands Not a b c d rest = more_truths _ a b (c ∷ d ∷ rest)
  four_operands PrintInt a b c d rest = more_integer _ a b (c ∷ d ∷ rest)
  four_operands Newline a b c d rest = refl
  four_operands ReadInt a b c d rest = refl
  four_operands MakeBox a b c d rest = refl
  four_operands Unbox a b c d rest = more_unboxed a b (c ∷ d ∷ rest)
  four_operands BoxSet a b c d rest = more_written_to_box a b c (d ∷ rest)
  four_operands MakeVector a b c d rest = more_for_vector a b c (d ∷ rest)
  four_operands VectorRef a b c d rest = more_read a b c (d ∷ rest)
  four_operands VectorSet a b c d rest = more_written a b c d rest
  four_operands VectorLength a b c d rest = more_measured a b (c ∷ d ∷ rest)

  -- so only few values count
  pub few_operands : (operator : PrimOp) (values : Option (List Value)) →
      with_some values (operator_step types store world operator)
      ≡ with_some (few values) (operator_step types store world operator)
  few_operands operator None = refl
  few_operands operator (Some []) = refl
  few_operands operator (Some (a ∷ [])) = refl
  few_operands operator (Some (a ∷ b ∷ [])) = refl
  few_operands operator (Some (a ∷ b ∷ c ∷ [])) = refl
  few_operands operator (Some (a ∷ b ∷ c ∷ d ∷ rest)) = four_operands operator a b c d rest

  pub no_operands : (operator : PrimOp) →
      operator_step types store world operator [] ≡ zero_step types store world operator
  no_operands Newline = refl
  no_operands ReadInt = refl
  no_operands _ = refl

  pub one_operand : (operator : PrimOp) (a : Value) →
      operator_step types store world operator (a ∷ []) ≡ one_step types store world operator a
  one_operand Add a = one_integer _ a
  one_operand Sub a = one_integer _ a
  one_operand Mul a = one_integer _ a
  one_operand Quot a = one_integer _ a
  one_operand Rem a = one_integer _ a
  one_operand Lt a = one_integer _ a
  one_operand Le a = one_integer _ a
  one_operand Eq a = one_integer _ a
  one_operand Ge a = one_integer _ a
  one_operand Gt a = one_integer _ a
  one_operand BoxSet a = one_written_to_box a
  one_operand MakeVector a = one_for_vector a
  one_operand VectorRef a = one_read a
  one_operand VectorSet a = one_written a
  one_operand _ a = refl

  -- two values that must be integers
  two_integers : (operator : PrimOp) (go : ℤ → ℤ → Outcome Term) (a b : Value) →
      ((m n : ℤ) → go m n ≡ integers_step types store world operator m n) →
      on_ints types store world go (a ∷ b ∷ []) ≡ on_integers types store world operator a b
  two_integers operator go (IntValue m) (IntValue n) same = same m n
  two_integers operator go (IntValue m) _ same = refl
  two_integers operator go _ b same = refl

  -- two values where an operator on integers would be stuck
  two_others : (operator : PrimOp) (a b : Value) →
      ((m n : ℤ) → integers_step types store world operator m n ≡ Stuck) →
      on_integers types store world operator a b ≡ Stuck
  two_others operator (IntValue m) (IntValue n) same = same m n
  two_others operator (IntValue m) _ same = refl
  two_others operator _ b same = refl

  pub two_operands : (operator : PrimOp) (a b : Value) →
      operator_step types store world operator (a ∷ b ∷ []) ≡ two_step types store world operator a b
  two_operands Add a b = two_integers Add _ a b (λ m n. refl)
  two_operands Sub a b = two_integers Sub _ a b (λ m n. refl)
  two_operands Mul a b = two_integers Mul _ a b (λ m n. refl)
  two_operands Quot a b = two_integers Quot _ a b (λ m n. refl)
  two_operands Rem a b = two_integers Rem _ a b (λ m n. refl)
  two_operands Lt a b = two_integers Lt _ a b (λ m n. refl)
  two_operands Le a b = two_integers Le _ a b (λ m n. refl)
  two_operands Eq a b = two_integers Eq _ a b (λ m n. refl)
  two_operands Ge a b = two_integers Ge _ a b (λ m n. refl)
  two_operands Gt a b = two_integers Gt _ a b (λ m n. refl)
  two_operands Not a b = more_truths _ a b [] ∙ sym (two_others Not a b (λ m n. refl))
  two_operands PrintInt a b = more_integer _ a b [] ∙ sym (two_others PrintInt a b (λ m n. refl))
  two_operands Newline a b = sym (two_others Newline a b (λ m n. refl))
  two_operands ReadInt a b = sym (two_others ReadInt a b (λ m n. refl))
  two_operands MakeBox a b = sym (two_others MakeBox a b (λ m n. refl))
  two_operands Unbox a b = more_unboxed a b [] ∙ sym (two_others Unbox a b (λ m n. refl))
  two_operands BoxSet a b = refl
  two_operands MakeVector a b = refl
  two_operands VectorRef a b = refl
  two_operands VectorSet a b = two_written_to_vector a b ∙ sym (two_others VectorSet a b (λ m n. refl))
  two_operands VectorLength a b = more_measured a b [] ∙ sym (two_others VectorLength a b (λ m n. refl))

  pub three_operands : (operator : PrimOp) (a b c : Value) →
      operator_step types store world operator (a ∷ b ∷ c ∷ []) ≡ three_step types store world operator a b c
  three_operands Add a b c = more_integers _ a b c []
  three_operands Sub a b c = more_integers _ a b c []
  three_operands Mul a b c = more_integers _ a b c []
  three_operands Quot a b c = more_integers _ a b c []
  three_operands Rem a b c = more_integers _ a b c []
  three_operands Lt a b c = more_integers _ a b c []
  three_operands Le a b c = more_integers _ a b c []
  three_operands Eq a b c = more_integers _ a b c []
  three_operands Ge a b c = more_integers _ a b c []
  three_operands Gt a b c = more_integers _ a b c []
  three_operands Not a b c = more_truths _ a b (c ∷ [])
  three_operands PrintInt a b c = more_integer _ a b (c ∷ [])
  three_operands Unbox a b c = more_unboxed a b (c ∷ [])
  three_operands BoxSet a b c = more_written_to_box a b c []
  three_operands MakeVector a b c = more_for_vector a b c []
  three_operands VectorRef a b c = more_read a b c []
  three_operands VectorLength a b c = more_measured a b (c ∷ [])
  three_operands _ a b c = refl
