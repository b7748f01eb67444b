-- Small programs, elaborated: names, calls, functions, bindings and branches. What is expected was worked out apart.
use Rattle.std.proofs.Common.{◌≡◌, [], ◌∷◌, refl, pos, Some, None, true, false}
use Rattle.std.specs.Prelude.{codes}
use Rattle.grift_base.specs.declared.operators.PrimOp.TheVariants.{Add, Sub, Lt, Eq}
use Rattle.grift_base.specs.declared.refusals.RefusalKind.TheVariants.{Unbound, NotConsistent, NotFunction, WrongCount}
use Rattle.grift_base.specs.Types.{IntRow, BoolRow, UnitRow, DynRow, FunRow, TupleRow, RefRow}
use Rattle.core_calc.specs.Terms.{IntLit, BoolLit, UnitLit, Var, Lambda, Group, Let, Call, If, Seq, Cast, Tuple, Prim}
use Rattle.core_calc.specs.Terms.{NoMembers, MemberThen, NoBindings, BindingThen, terms_from}
use Rattle.surface_trees.specs.declared.names.Ident.TheVariants.{Source}
use Rattle.surface_trees.specs.Trees.{TypeAt, RefType, ExprAt, UnitNode, LambdaNode, CallNode, LetNode, LetrecNode}
use Rattle.surface_trees.specs.Trees.{IfNode, BeginNode, AscribeNode, TupleNode, PrimNode, LambdaAt, NoLets, LetThen}
use Rattle.surface_trees.specs.Trees.{NoLetrecs, LetrecThen}
use Rattle.cast_rules.specs.Making.{then_make, Makes, Refuses, CastFrom}
use Rattle.cast_rules.specs.Elaboration.{elaborate_program}
use Rattle.cast_insert.specs.Outcomes.{IsRefused}
use Rattle.cast_insert.proofs.Sketches.{at, answer, comes_to, int, truth, name, exprs, param, base, fun_type}

-- 42
an_integer : elaborate_program (int 1 42)
    ≡ Makes (answer (IntLit (pos 42)) 0 None)
    (record { types = (IntRow ∷ []); labels = []; casts = []; next = 0 })
unfolding then_make
an_integer = refl

-- #t
a_truth_value : elaborate_program (truth 1 true)
    ≡ Makes (answer (BoolLit true) 0 None)
    (record { types = (BoolRow ∷ []); labels = []; casts = []; next = 0 })
unfolding then_make
a_truth_value = refl

-- ()
unit : elaborate_program (ExprAt (at 1) UnitNode)
    ≡ Makes (answer UnitLit 0 None)
    (record { types = (UnitRow ∷ []); labels = []; casts = []; next = 0 })
unfolding then_make
unit = refl

-- x
unbound : comes_to (name 1 (codes "x"))
    ≡ IsRefused Unbound (at 1)
unfolding then_make
unbound = refl

-- (: 1 Int)
ascribed_same : elaborate_program (ExprAt (at 1) (AscribeNode (int 4 1) (base 6 IntRow)))
    ≡ Makes (answer (IntLit (pos 1)) 0 None)
    (record { types = (IntRow ∷ []); labels = []; casts = []; next = 0 })
unfolding then_make
ascribed_same = refl

-- (: (: #t Dyn) Int)
ascribed_twice : elaborate_program (ExprAt (at 1) (AscribeNode (ExprAt (at 4) (AscribeNode (truth 7 true) (base 10
    DynRow))) (base 15 IntRow)))
    ≡ Makes (answer (Cast (Cast (BoolLit true) 0 1 0) 1 2 1) 2 (Some 1))
    (record {
      types = (BoolRow ∷ DynRow ∷ IntRow ∷ []);
      labels = (at 4 ∷ at 1 ∷ []);
      casts = (CastFrom 0 0 1 None ∷
          CastFrom 1 1 2 (Some 0) ∷ []);
      next = 0;
    })
unfolding then_make
ascribed_twice = refl

-- (: 1 Bool)
ascribed_wrong : elaborate_program (ExprAt (at 1) (AscribeNode (int 4 1) (base 6 BoolRow)))
    ≡ Refuses NotConsistent (at 1)
    (record { types = (IntRow ∷ BoolRow ∷ []); labels = []; casts = []; next = 0 })
unfolding then_make
ascribed_wrong = refl

-- (: (: (: 1 Dyn) Int) Dyn)
ascribed_thrice : elaborate_program (ExprAt (at 1) (AscribeNode (ExprAt (at 4) (AscribeNode (ExprAt (at 7)
    (AscribeNode (int 10 1) (base 12 DynRow))) (base 17 IntRow))) (base 22 DynRow)))
    ≡ Makes (answer (Cast (Cast (Cast (IntLit (pos 1)) 0 1 0) 1 0 1) 0 1 2) 1 (Some 2))
    (record {
      types = (IntRow ∷ DynRow ∷ []);
      labels = (at 7 ∷ at 4 ∷ at 1 ∷ []);
      casts = (CastFrom 0 0 1 None ∷
          CastFrom 1 1 0 (Some 0) ∷ CastFrom 2 0 1 (Some 1) ∷ []);
      next = 0;
    })
unfolding then_make
ascribed_thrice = refl

-- (: (lambda ([x : Int]) x) (Dyn -> (Ref Int)))
ascribed_function : comes_to (ExprAt (at 1) (AscribeNode (ExprAt (at 4) (LambdaNode (LambdaAt (at 4) ((param
    13 (codes "x") (Some (base 18 IntRow))) ∷ []) None (exprs ((name 24 (codes "x")) ∷ []))))) (fun_type 27 ((base 28
    DynRow) ∷ []) (TypeAt (at 35) (RefType (base 40 IntRow))))))
    ≡ IsRefused NotConsistent (at 1)
unfolding then_make
ascribed_function = refl

-- (: (lambda ([x : (Ref Int)]) x) (Dyn -> (Ref Dyn)))
ascribed_function_dyn : elaborate_program (ExprAt (at 1) (AscribeNode (ExprAt (at 4) (LambdaNode (LambdaAt (at 4)
    ((param 13 (codes "x") (Some (TypeAt (at 18) (RefType (base 23 IntRow))))) ∷ []) None (exprs ((name 30 (codes
    "x")) ∷ []))))) (fun_type 33 ((base 34 DynRow) ∷ []) (TypeAt (at 41) (RefType (base 46 DynRow))))))
    ≡ Makes (answer (Cast (Lambda (0 ∷ []) (Seq (terms_from ((Var 0) ∷ []))) 2) 2 5 0) 5 (Some 0))
    (record {
      types = (IntRow ∷ RefRow 0 ∷ FunRow (1 ∷ []) 1 ∷ DynRow ∷ RefRow 3 ∷ FunRow (3 ∷ []) 4 ∷ []);
      labels
          = (at 1 ∷ []);
      casts = (CastFrom 0 2 5 None ∷ []);
      next = 1;
    })
unfolding then_make
ascribed_function_dyn = refl

-- ((lambda (x) x) 1)
call_with_cast : elaborate_program (ExprAt (at 1) (CallNode (ExprAt (at 2) (LambdaNode (LambdaAt (at 2) ((param 11
    (codes "x") None) ∷ []) None (exprs ((name 14 (codes "x")) ∷ []))))) (exprs ((int 17 1) ∷ []))))
    ≡ Makes (answer (Call (Lambda (0 ∷ []) (Seq (terms_from ((Var 0) ∷ []))) 1) (terms_from ((Cast (IntLit (pos 1)) 2
    0 0) ∷ []))) 0 None)
    (record {
      types = (DynRow ∷ FunRow (0 ∷ []) 0 ∷ IntRow ∷ []);
      labels = (at 17 ∷ []);
      casts = (CastFrom 0 2 0
          None ∷ []);
      next = 1;
    })
unfolding then_make
call_with_cast = refl

-- ((lambda ([x : Int]) x) 1)
call_without_cast : elaborate_program (ExprAt (at 1) (CallNode (ExprAt (at 2) (LambdaNode (LambdaAt (at 2) ((param 11
    (codes "x") (Some (base 16 IntRow))) ∷ []) None (exprs ((name 22 (codes "x")) ∷ []))))) (exprs ((int 25 1) ∷
    []))))
    ≡ Makes (answer (Call (Lambda (0 ∷ []) (Seq (terms_from ((Var 0) ∷ []))) 1) (terms_from ((IntLit (pos 1)) ∷ [])))
    0 None)
    (record { types = (IntRow ∷ FunRow (0 ∷ []) 0 ∷ []); labels = []; casts = []; next = 1 })
unfolding then_make
call_without_cast = refl

-- ((lambda (x) x) 1 2)
call_wrong_count : comes_to (ExprAt (at 1) (CallNode (ExprAt (at 2) (LambdaNode (LambdaAt (at 2) ((param 11
    (codes "x") None) ∷ []) None (exprs ((name 14 (codes "x")) ∷ []))))) (exprs ((int 17 1) ∷ (int 19 2) ∷ []))))
    ≡ IsRefused WrongCount (at 1)
unfolding then_make
call_wrong_count = refl

-- ((lambda ([x : Int]) x) #t)
call_wrong_argument : comes_to (ExprAt (at 1) (CallNode (ExprAt (at 2) (LambdaNode (LambdaAt (at 2) ((param
    11 (codes "x") (Some (base 16 IntRow))) ∷ []) None (exprs ((name 22 (codes "x")) ∷ []))))) (exprs ((truth 25
    true) ∷ []))))
    ≡ IsRefused NotConsistent (at 25)
unfolding then_make
call_wrong_argument = refl

-- ((: (lambda () 1) Dyn) 5)
call_of_dyn : elaborate_program (ExprAt (at 1) (CallNode (ExprAt (at 2) (AscribeNode (ExprAt (at 5) (LambdaNode
    (LambdaAt (at 5) [] None (exprs ((int 16 1) ∷ []))))) (base 19 DynRow))) (exprs ((int 24 5) ∷ []))))
    ≡ Makes (answer (Call (Cast (Cast (Lambda [] (Seq (terms_from ((IntLit (pos 1)) ∷ []))) 1) 1 2 0) 2 3 0)
    (terms_from ((IntLit (pos 5)) ∷ []))) 2 None)
    (record {
      types = (IntRow ∷ FunRow [] 0 ∷ DynRow ∷ FunRow (0 ∷ []) 2 ∷ []);
      labels = (at 2 ∷ []);
      casts =
          (CastFrom 0 1 2 None ∷ CastFrom 0 2 3 (Some 0) ∷ []);
      next = 0;
    })
unfolding then_make
call_of_dyn = refl

-- (1 2)
call_of_integer : comes_to (ExprAt (at 1) (CallNode (int 2 1) (exprs ((int 4 2) ∷ []))))
    ≡ IsRefused NotFunction (at 2)
unfolding then_make
call_of_integer = refl

-- ((lambda (x) x) y z)
count_before_arguments : comes_to (ExprAt (at 1) (CallNode (ExprAt (at 2) (LambdaNode (LambdaAt (at 2)
    ((param 11 (codes "x") None) ∷ []) None (exprs ((name 14 (codes "x")) ∷ []))))) (exprs ((name 17 (codes "y")) ∷
    (name 19 (codes "z")) ∷ []))))
    ≡ IsRefused WrongCount (at 1)
unfolding then_make
count_before_arguments = refl

-- (lambda (x [y : Int]) (+ x y))
lambda_parameters : elaborate_program (ExprAt (at 1) (LambdaNode (LambdaAt (at 1) ((param 10 (codes "x") None) ∷
    (param 12 (codes "y") (Some (base 17 IntRow))) ∷ []) None (exprs ((ExprAt (at 23) (PrimNode Add (exprs ((name 26
    (codes "x")) ∷ (name 28 (codes "y")) ∷ [])))) ∷ [])))))
    ≡ Makes (answer (Lambda (0 ∷ 1 ∷ []) (Seq (terms_from ((Prim Add (terms_from ((Cast (Var 0) 0 1 0) ∷ (Var 1) ∷
    []))) ∷ []))) 2) 2 None)
    (record {
      types = (DynRow ∷ IntRow ∷ FunRow (0 ∷ 1 ∷ []) 1 ∷ []);
      labels = (at 26 ∷ []);
      casts = (CastFrom 0 0
          1 None ∷ []);
      next = 2;
    })
unfolding then_make
lambda_parameters = refl

-- (lambda ([x : Int]) : Dyn 1 x)
lambda_result : elaborate_program (ExprAt (at 1) (LambdaNode (LambdaAt (at 1) ((param 10 (codes "x") (Some (base 15
    IntRow))) ∷ []) (Some (base 23 DynRow)) (exprs ((int 27 1) ∷ (name 29 (codes "x")) ∷ [])))))
    ≡ Makes (answer (Lambda (0 ∷ []) (Cast (Seq (terms_from ((IntLit (pos 1)) ∷ (Var 0) ∷ []))) 0 1 0) 2) 2 None)
    (record {
      types = (IntRow ∷ DynRow ∷ FunRow (0 ∷ []) 1 ∷ []);
      labels = (at 29 ∷ []);
      casts = (CastFrom 0 0 1
          None ∷ []);
      next = 1;
    })
unfolding then_make
lambda_result = refl

-- (lambda ([x : Int]) : Int x)
lambda_result_same : elaborate_program (ExprAt (at 1) (LambdaNode (LambdaAt (at 1) ((param 10 (codes "x") (Some (base
    15 IntRow))) ∷ []) (Some (base 23 IntRow)) (exprs ((name 27 (codes "x")) ∷ [])))))
    ≡ Makes (answer (Lambda (0 ∷ []) (Seq (terms_from ((Var 0) ∷ []))) 1) 1 None)
    (record { types = (IntRow ∷ FunRow (0 ∷ []) 0 ∷ []); labels = []; casts = []; next = 1 })
unfolding then_make
lambda_result_same = refl

-- (lambda ([x : Int]) : Bool #t x)
lambda_wrong_result : comes_to (ExprAt (at 1) (LambdaNode (LambdaAt (at 1) ((param 10 (codes "x") (Some
    (base 15 IntRow))) ∷ []) (Some (base 23 BoolRow)) (exprs ((truth 28 true) ∷ (name 31 (codes "x")) ∷ [])))))
    ≡ IsRefused NotConsistent (at 31)
unfolding then_make
lambda_wrong_result = refl

-- (let ([x 1] [y : Dyn 2]) (+ x y))
let_with_and_without : elaborate_program (ExprAt (at 1) (LetNode (LetThen (Source (codes "x")) None (int 10 1)
    (LetThen (Source (codes "y")) (Some (base 18 DynRow)) (int 22 2) NoLets)) (exprs ((ExprAt (at 26) (PrimNode Add
    (exprs ((name 29 (codes "x")) ∷ (name 31 (codes "y")) ∷ [])))) ∷ []))))
    ≡ Makes (answer (Let (BindingThen 0 (IntLit (pos 1)) (BindingThen 1 (Cast (IntLit (pos 2)) 0 1 0) NoBindings))
    (Seq (terms_from ((Prim Add (terms_from ((Var 0) ∷ (Cast (Var 1) 1 0 1) ∷ []))) ∷ [])))) 0 None)
    (record {
      types = (IntRow ∷ DynRow ∷ []);
      labels = (at 22 ∷ at 31 ∷ []);
      casts = (CastFrom 0 0 1 None ∷
          CastFrom 1 1 0 None ∷ []);
      next = 2;
    })
unfolding then_make
let_with_and_without = refl

-- (let ([x #t]) (let ([x 1] [y x]) y))
let_outer_names : elaborate_program (ExprAt (at 1) (LetNode (LetThen (Source (codes "x")) None (truth 10 true)
    NoLets) (exprs ((ExprAt (at 15) (LetNode (LetThen (Source (codes "x")) None (int 24 1) (LetThen (Source (codes
    "y")) None (name 30 (codes "x")) NoLets)) (exprs ((name 34 (codes "y")) ∷ [])))) ∷ []))))
    ≡ Makes (answer (Let (BindingThen 0 (BoolLit true) NoBindings) (Seq (terms_from ((Let (BindingThen 1 (IntLit (pos
    1)) (BindingThen 2 (Var 0) NoBindings)) (Seq (terms_from ((Var 2) ∷ [])))) ∷ [])))) 0 None)
    (record { types = (BoolRow ∷ IntRow ∷ []); labels = []; casts = []; next = 3 })
unfolding then_make
let_outer_names = refl

-- (let ([x : Bool 1]) x)
let_wrong : comes_to (ExprAt (at 1) (LetNode (LetThen (Source (codes "x")) (Some (base 12 BoolRow)) (int 17
    1) NoLets) (exprs ((name 21 (codes "x")) ∷ []))))
    ≡ IsRefused NotConsistent (at 17)
unfolding then_make
let_wrong = refl

-- (letrec ([f (lambda ([x : Int]) : Int (f x))]) (f 0))
letrec_plain : elaborate_program (ExprAt (at 1) (LetrecNode (LetrecThen (Source (codes "f")) None (LambdaAt (at 13)
    ((param 22 (codes "x") (Some (base 27 IntRow))) ∷ []) (Some (base 35 IntRow)) (exprs ((ExprAt (at 39) (CallNode
    (name 40 (codes "f")) (exprs ((name 42 (codes "x")) ∷ [])))) ∷ []))) NoLetrecs) (exprs ((ExprAt (at 48) (CallNode
    (name 49 (codes "f")) (exprs ((int 51 0) ∷ [])))) ∷ []))))
    ≡ Makes (answer (Group (MemberThen 0 (1 ∷ []) (Seq (terms_from ((Call (Var 0) (terms_from ((Var 1) ∷ []))) ∷
    []))) 1 NoMembers) (Seq (terms_from ((Call (Var 0) (terms_from ((IntLit (pos 0)) ∷ []))) ∷ [])))) 0 None)
    (record { types = (IntRow ∷ FunRow (0 ∷ []) 0 ∷ []); labels = []; casts = []; next = 2 })
unfolding then_make
letrec_plain = refl

-- (letrec ([f : Dyn (lambda ([x : Int]) : Int (if (< x 1) 0 (f (- x 1))))]) (f 3))
letrec_written : elaborate_program (ExprAt (at 1) (LetrecNode (LetrecThen (Source (codes "f")) (Some (base 15
    DynRow)) (LambdaAt (at 19) ((param 28 (codes "x") (Some (base 33 IntRow))) ∷ []) (Some (base 41 IntRow)) (exprs
    ((ExprAt (at 45) (IfNode (ExprAt (at 49) (PrimNode Lt (exprs ((name 52 (codes "x")) ∷ (int 54 1) ∷ [])))) (int 57
    0) (ExprAt (at 59) (CallNode (name 60 (codes "f")) (exprs ((ExprAt (at 62) (PrimNode Sub (exprs ((name 65 (codes
    "x")) ∷ (int 67 1) ∷ [])))) ∷ [])))))) ∷ []))) NoLetrecs) (exprs ((ExprAt (at 75) (CallNode (name 76 (codes "f"))
    (exprs ((int 78 3) ∷ [])))) ∷ []))))
    ≡ Makes (answer (Group (MemberThen 0 (1 ∷ []) (Cast (Seq (terms_from ((If (Prim Lt (terms_from ((Var 1) ∷ (IntLit
    (pos 1)) ∷ []))) (Cast (IntLit (pos 0)) 0 1 2) (Call (Cast (Cast (Var 0) 2 1 0) 1 4 1) (terms_from ((Prim Sub
    (terms_from ((Var 1) ∷ (IntLit (pos 1)) ∷ []))) ∷ [])))) ∷ []))) 1 0 3) 2 NoMembers) (Seq (terms_from ((Call
    (Cast (Cast (Var 0) 2 1 0) 1 4 4) (terms_from ((IntLit (pos 3)) ∷ []))) ∷ [])))) 1 None)
    (record {
      types = (IntRow ∷ DynRow ∷ FunRow (0 ∷ []) 0 ∷ BoolRow ∷ FunRow (0 ∷ []) 1 ∷ []);
      labels = (at 19 ∷
          at 60 ∷ at 57 ∷ at 45 ∷ at 76 ∷ []);
      casts = (CastFrom 0 2 1 None ∷ CastFrom 1 1 4 (Some 0) ∷ CastFrom 2 0 1
          None ∷ CastFrom 3 1 0 None ∷ CastFrom 0 2 1 None ∷ CastFrom 4 1 4 (Some 4) ∷ []);
      next = 2;
    })
unfolding then_make
letrec_written = refl

-- (letrec ([f : (Bool -> Int) (lambda ([x : Int]) x)]) 1)
letrec_not_consistent : comes_to (ExprAt (at 1) (LetrecNode (LetrecThen (Source (codes "f")) (Some (fun_type
    15 ((base 16 BoolRow) ∷ []) (base 24 IntRow))) (LambdaAt (at 29) ((param 38 (codes "x") (Some (base 43 IntRow)))
    ∷ []) None (exprs ((name 49 (codes "x")) ∷ []))) NoLetrecs) (exprs ((int 54 1) ∷ []))))
    ≡ IsRefused NotConsistent (at 29)
unfolding then_make
letrec_not_consistent = refl

-- (letrec ([even (lambda (n) (if (= n 0) #t (odd (- n 1))))] [odd (lambda (n) (if (= n 0) #f (even (- n 1))))]) (even
-- 10))
letrec_two : elaborate_program (ExprAt (at 1) (LetrecNode (LetrecThen (Source (codes "even")) None (LambdaAt (at 16)
    ((param 25 (codes "n") None) ∷ []) None (exprs ((ExprAt (at 28) (IfNode (ExprAt (at 32) (PrimNode Eq (exprs
    ((name 35 (codes "n")) ∷ (int 37 0) ∷ [])))) (truth 40 true) (ExprAt (at 43) (CallNode (name 44 (codes "odd"))
    (exprs ((ExprAt (at 48) (PrimNode Sub (exprs ((name 51 (codes "n")) ∷ (int 53 1) ∷ [])))) ∷ [])))))) ∷ [])))
    (LetrecThen (Source (codes "odd")) None (LambdaAt (at 65) ((param 74 (codes "n") None) ∷ []) None (exprs ((ExprAt
    (at 77) (IfNode (ExprAt (at 81) (PrimNode Eq (exprs ((name 84 (codes "n")) ∷ (int 86 0) ∷ [])))) (truth 89 false)
    (ExprAt (at 92) (CallNode (name 93 (codes "even")) (exprs ((ExprAt (at 98) (PrimNode Sub (exprs ((name 101 (codes
    "n")) ∷ (int 103 1) ∷ [])))) ∷ [])))))) ∷ []))) NoLetrecs)) (exprs ((ExprAt (at 111) (CallNode (name 112 (codes
    "even")) (exprs ((int 117 10) ∷ [])))) ∷ []))))
    ≡ Makes (answer (Group (MemberThen 0 (2 ∷ []) (Seq (terms_from ((If (Prim Eq (terms_from ((Cast (Var 2) 0 2 0) ∷
    (IntLit (pos 0)) ∷ []))) (Cast (BoolLit true) 3 0 3) (Call (Var 1) (terms_from ((Cast (Prim Sub (terms_from
    ((Cast (Var 2) 0 2 1) ∷ (IntLit (pos 1)) ∷ []))) 2 0 2) ∷ [])))) ∷ []))) 1 (MemberThen 1 (3 ∷ []) (Seq
    (terms_from ((If (Prim Eq (terms_from ((Cast (Var 3) 0 2 4) ∷ (IntLit (pos 0)) ∷ []))) (Cast (BoolLit false) 3
    0 7) (Call (Var 0) (terms_from ((Cast (Prim Sub (terms_from ((Cast (Var 3) 0 2 5) ∷ (IntLit (pos 1)) ∷ []))) 2
    0 6) ∷ [])))) ∷ []))) 1 NoMembers)) (Seq (terms_from ((Call (Var 0) (terms_from ((Cast (IntLit (pos 10)) 2 0 8)
    ∷ []))) ∷ [])))) 0 None)
    (record {
      types = (DynRow ∷ FunRow (0 ∷ []) 0 ∷ IntRow ∷ BoolRow ∷ []);
      labels = (at 35 ∷ at 51 ∷ at 48 ∷ at 40
          ∷ at 84 ∷ at 101 ∷ at 98 ∷ at 89 ∷ at 117 ∷ []);
      casts = (CastFrom 0 0 2 None ∷ CastFrom 1 0 2 None ∷
          CastFrom 2 2 0 None ∷ CastFrom 3 3 0 None ∷ CastFrom 4 0 2 None ∷ CastFrom 5 0 2 None ∷ CastFrom 6 2 0 None ∷
          CastFrom 7 3 0 None ∷ CastFrom 8 2 0 None ∷ []);
      next = 4;
    })
unfolding then_make
letrec_two = refl

-- (letrec ([f : (Dyn -> Int) (lambda ([x : Int]) : Int x)]) (+ (f 1) (f 2)))
two_casts_of_one_label : elaborate_program (ExprAt (at 1) (LetrecNode (LetrecThen (Source (codes "f")) (Some
    (fun_type 15 ((base 16 DynRow) ∷ []) (base 23 IntRow))) (LambdaAt (at 28) ((param 37 (codes "x") (Some (base 42
    IntRow))) ∷ []) (Some (base 50 IntRow)) (exprs ((name 54 (codes "x")) ∷ []))) NoLetrecs) (exprs ((ExprAt (at 59)
    (PrimNode Add (exprs ((ExprAt (at 62) (CallNode (name 63 (codes "f")) (exprs ((int 65 1) ∷ [])))) ∷ (ExprAt (at
    68) (CallNode (name 69 (codes "f")) (exprs ((int 71 2) ∷ [])))) ∷ [])))) ∷ []))))
    ≡ Makes (answer (Group (MemberThen 0 (1 ∷ []) (Seq (terms_from ((Var 1) ∷ []))) 3 NoMembers) (Seq (terms_from
    ((Prim Add (terms_from ((Call (Cast (Var 0) 3 2 0) (terms_from ((Cast (IntLit (pos 1)) 0 1 1) ∷ []))) ∷ (Call
    (Cast (Var 0) 3 2 0) (terms_from ((Cast (IntLit (pos 2)) 0 1 2) ∷ []))) ∷ []))) ∷ [])))) 0 None)
    (record {
      types = (IntRow ∷ DynRow ∷ FunRow (1 ∷ []) 0 ∷ FunRow (0 ∷ []) 0 ∷ []);
      labels = (at 28 ∷ at 65 ∷ at
          71 ∷ []);
      casts = (CastFrom 0 3 2 None ∷ CastFrom 1 0 1 None ∷ CastFrom 0 3 2 None ∷ CastFrom 2 0 1 None ∷
          []);
      next = 2;
    })
unfolding then_make
two_casts_of_one_label = refl

-- (if #t 1 2)
if_plain : elaborate_program (ExprAt (at 1) (IfNode (truth 5 true) (int 8 1) (int 10 2)))
    ≡ Makes (answer (If (BoolLit true) (IntLit (pos 1)) (IntLit (pos 2))) 1 None)
    (record { types = (BoolRow ∷ IntRow ∷ []); labels = []; casts = []; next = 0 })
unfolding then_make
if_plain = refl

-- (if (: #f Dyn) 1 (: 2 Dyn))
if_casts : elaborate_program (ExprAt (at 1) (IfNode (ExprAt (at 5) (AscribeNode (truth 8 false) (base 11 DynRow)))
    (int 16 1) (ExprAt (at 18) (AscribeNode (int 21 2) (base 23 DynRow)))))
    ≡ Makes (answer (If (Cast (Cast (BoolLit false) 0 1 0) 1 0 0) (Cast (IntLit (pos 1)) 2 1 2) (Cast (IntLit (pos
    2)) 2 1 1)) 1 None)
    (record {
      types = (BoolRow ∷ DynRow ∷ IntRow ∷ []);
      labels = (at 5 ∷ at 18 ∷ at 16 ∷ []);
      casts = (CastFrom 0 0
          1 None ∷ CastFrom 0 1 0 (Some 0) ∷ CastFrom 1 2 1 None ∷ CastFrom 2 2 1 None ∷ []);
      next = 0;
    })
unfolding then_make
if_casts = refl

-- (if #t (: 2 Dyn) 1)
if_second_cast : elaborate_program (ExprAt (at 1) (IfNode (truth 5 true) (ExprAt (at 8) (AscribeNode (int 11 2) (base
    13 DynRow))) (int 18 1)))
    ≡ Makes (answer (If (BoolLit true) (Cast (IntLit (pos 2)) 1 2 0) (Cast (IntLit (pos 1)) 1 2 1)) 2 None)
    (record {
      types = (BoolRow ∷ IntRow ∷ DynRow ∷ []);
      labels = (at 8 ∷ at 18 ∷ []);
      casts = (CastFrom 0 1 2 None
          ∷ CastFrom 1 1 2 None ∷ []);
      next = 0;
    })
unfolding then_make
if_second_cast = refl

-- (if 1 2 3)
if_condition : comes_to (ExprAt (at 1) (IfNode (int 5 1) (int 7 2) (int 9 3)))
    ≡ IsRefused NotConsistent (at 5)
unfolding then_make
if_condition = refl

-- (if #t 1 #f)
if_branches : comes_to (ExprAt (at 1) (IfNode (truth 5 true) (int 8 1) (truth 10 false)))
    ≡ IsRefused NotConsistent (at 1)
unfolding then_make
if_branches = refl

-- (if #t (tuple 1 (: 2 Dyn)) (tuple (: 1 Dyn) 2))
if_blend : elaborate_program (ExprAt (at 1) (IfNode (truth 5 true) (ExprAt (at 8) (TupleNode (exprs ((int 15 1) ∷
    (ExprAt (at 17) (AscribeNode (int 20 2) (base 22 DynRow))) ∷ [])))) (ExprAt (at 28) (TupleNode (exprs ((ExprAt
    (at 35) (AscribeNode (int 38 1) (base 40 DynRow))) ∷ (int 45 2) ∷ []))))))
    ≡ Makes (answer (If (BoolLit true) (Cast (Tuple (terms_from ((IntLit (pos 1)) ∷ (Cast (IntLit (pos 2)) 1 2 0) ∷
    []))) 3 5 2) (Cast (Tuple (terms_from ((Cast (IntLit (pos 1)) 1 2 1) ∷ (IntLit (pos 2)) ∷ []))) 4 5 3)) 5 None)
    (record {
      types = (BoolRow ∷ IntRow ∷ DynRow ∷ TupleRow (1 ∷ 2 ∷ []) ∷ TupleRow (2 ∷ 1 ∷ []) ∷ TupleRow (2 ∷ 2
          ∷ []) ∷ []);
      labels = (at 17 ∷ at 35 ∷ at 8 ∷ at 28 ∷ []);
      casts = (CastFrom 0 1 2 None ∷ CastFrom 1 1 2 None
          ∷ CastFrom 2 3 5 None ∷ CastFrom 3 4 5 None ∷ []);
      next = 0;
    })
unfolding then_make
if_blend = refl

-- (begin 1 #t)
begin_two : elaborate_program (ExprAt (at 1) (BeginNode (exprs ((int 8 1) ∷ (truth 10 true) ∷ []))))
    ≡ Makes (answer (Seq (terms_from ((IntLit (pos 1)) ∷ (BoolLit true) ∷ []))) 1 None)
    (record { types = (IntRow ∷ BoolRow ∷ []); labels = []; casts = []; next = 0 })
unfolding then_make
begin_two = refl

-- (begin 1)
begin_one : elaborate_program (ExprAt (at 1) (BeginNode (exprs ((int 8 1) ∷ []))))
    ≡ Makes (answer (Seq (terms_from ((IntLit (pos 1)) ∷ []))) 0 None)
    (record { types = (IntRow ∷ []); labels = []; casts = []; next = 0 })
unfolding then_make
begin_one = refl

-- (: (begin (: 1 Dyn)) Int)
seq_between_casts : elaborate_program (ExprAt (at 1) (AscribeNode (ExprAt (at 4) (BeginNode (exprs ((ExprAt (at 11)
    (AscribeNode (int 14 1) (base 16 DynRow))) ∷ [])))) (base 22 IntRow)))
    ≡ Makes (answer (Cast (Seq (terms_from ((Cast (IntLit (pos 1)) 0 1 0) ∷ []))) 1 0 1) 0 (Some 1))
    (record {
      types = (IntRow ∷ DynRow ∷ []);
      labels = (at 11 ∷ at 1 ∷ []);
      casts = (CastFrom 0 0 1 None ∷ CastFrom
          1 1 0 None ∷ []);
      next = 0;
    })
unfolding then_make
seq_between_casts = refl
