-- Accounts of programs, as a reference implementation that was written apart finds them.
use Rattle.std.proofs.Common.{◌≡◌, ℕ, List, [], ◌∷◌, refl, true, pos, negsuc}
use Rattle.std.specs.Int.{int_wrap}
use Rattle.grift_base.specs.Types.{BoolRow, DynRow, FunRow, IntRow, RefRow, TupleRow, TypeRows, UnitRow, VectRow}
use Rattle.grift_base.specs.declared.places.Pos.{Pos}
use Rattle.grift_base.specs.declared.operators.PrimOp.TheVariants.{Add, BoxSet, Eq, MakeBox, MakeVector, Mul, Newline}
use Rattle.grift_base.specs.declared.operators.PrimOp.TheVariants.{PrintInt, Quot, Rem, Sub, Unbox, VectorRef}
use Rattle.grift_base.specs.declared.operators.PrimOp.TheVariants.{VectorSet}
use Rattle.core_calc.specs.Terms.{BindingThen, BoolLit, Call, Cast, Group, If, IntLit, Lambda, Let, MemberThen}
use Rattle.core_calc.specs.Terms.{NoBindings, NoMembers, NoTerms, Prim, Proj, ProjDyn, Seq, Term, TermThen, Tuple, Var}
use Rattle.core_calc.specs.Calculus.{Program}
use Rattle.core_calc.specs.Account.{Account, Measures, account, measures_of}

-- the places of labels, of which these programs have four at most
abbrev places : List Pos
places = record { line = 1; col = 1 } ∷ record { line = 2; col = 1 } ∷ record { line = 3; col = 1 }
    ∷ record { line = 4; col = 1 } ∷ []

abbrev measured : ℕ → ℕ → ℕ → Measures
measured size height width = record { size = size; height = height; width = width }

-- after at most so many steps: how many were made, the words, the charge of the next one, the work and the depth
abbrev after : ℕ → ℕ → ℕ → ℕ → ℕ → ℕ → ℕ × Account
after most steps words charge work depth =
    (most, record { steps = steps; words = words; charge = charge; work = work; depth = depth })

abbrev Shows : Program → List (ℕ × Account) → Type 0
Shows program [] = Unit {0}
Shows program (row ∷ rows) = ((account program [] row.0).shown ≡ row.1) × Shows program rows

abbrev with_places : Term → TypeRows → Program
with_places term types = record { term = term; types = types; labels = places }

-- a program's measures, and what its account shows on no input
abbrev Tells : Term → TypeRows → Measures → List (ℕ × Account) → Type 0
Tells term types measures rows = (measures_of (with_places term types) ≡ measures) × Shows (with_places term types) rows

-- (+ 40 2)
account0 : Tells (Prim Add (TermThen (IntLit (pos 40)) (TermThen (IntLit (pos 2)) NoTerms)))
    (IntRow ∷ []) (measured 4 0 2)
    (after 0 0 0 0 20 0 ∷ after 1 1 0 0 40 0 ∷ after 2 1 0 0 40 0 ∷ [])
account0 = (refl, (refl, (refl, (refl, tt))))

-- 42
account1 : Tells (IntLit (pos 42))
    (IntRow ∷ []) (measured 2 0 2)
    (after 0 0 0 0 18 0 ∷ after 3 0 0 0 18 0 ∷ [])
account1 = (refl, (refl, (refl, tt)))

-- (: (: #t Dyn) Int)
account2 : Tells (Cast (Cast (BoolLit true) 0 1 0) 1 2 1)
    (BoolRow ∷ DynRow ∷ IntRow ∷ []) (measured 6 0 2)
    (after 0 0 0 16 22 1 ∷ after 1 1 16 16 44 1 ∷ after 2 2 32 16 66 1 ∷ after 3 3 48 0 88 1 ∷ [])
account2 = (refl, (refl, (refl, (refl, (refl, tt)))))

-- ((: (lambda ([x : Int]) : Int x) (Dyn -> Dyn)) 5)
account3 : Tells (Call (Cast (Lambda (0 ∷ []) (Seq (TermThen (Var 0) NoTerms)) 1) 1 3 0) (TermThen (Cast (IntLit (pos
    5)) 0 2 1) NoTerms))
    (IntRow ∷ FunRow (0 ∷ []) 0 ∷ DynRow ∷ FunRow (2 ∷ []) 2 ∷ []) (measured 12 1 2)
    (after 0 0 0 64 28 2 ∷ after 2 2 1360 16 1364 2 ∷ after 3 3 1376 0 1392 2 ∷ after 5 5 1376 16 1448 2 ∷
    after 7 7 1408 0 1504 2 ∷ after 9 9 1408 16 1560 2 ∷ after 12 10 1424 0 1588 2 ∷ [])
account3 = (refl, (refl, (refl, (refl, (refl, (refl, (refl, (refl, tt))))))))

-- ((: (lambda ([x : Int]) : Int x) (Dyn -> Dyn)) #t)
account4 : Tells (Call (Cast (Lambda (0 ∷ []) (Seq (TermThen (Var 0) NoTerms)) 1) 1 3 0) (TermThen (Cast (BoolLit
    true) 4 2 1) NoTerms))
    (IntRow ∷ FunRow (0 ∷ []) 0 ∷ DynRow ∷ FunRow (2 ∷ []) 2 ∷ BoolRow ∷ []) (measured 13 1 2)
    (after 4 4 1380 0 1425 2 ∷ after 7 7 1412 0 1512 2 ∷ after 20 7 1412 0 1512 2 ∷ [])
account4 = (refl, (refl, (refl, (refl, tt))))

-- (let ([b (box 1)]) (let ([d (: b (Ref Dyn))]) (begin (box-set! d #t) (unbox b))))
account5 : Tells (Let (BindingThen 0 (Prim MakeBox (TermThen (IntLit (pos 1)) NoTerms)) NoBindings) (Seq (TermThen
    (Let (BindingThen 1 (Cast (Var 0) 1 3 0) NoBindings) (Seq (TermThen (Seq (TermThen (Prim BoxSet (TermThen (Var
    1) (TermThen (Cast (BoolLit true) 4 2 1) NoTerms))) (TermThen (Prim Unbox (TermThen (Var 0) NoTerms)) NoTerms)))
    NoTerms))) NoTerms)))
    (IntRow ∷ RefRow 0 ∷ DynRow ∷ RefRow 2 ∷ BoolRow ∷ UnitRow ∷ []) (measured 23 1 2)
    (after 1 1 16 0 78 1 ∷ after 2 2 16 0 117 1 ∷ after 3 3 16 1296 156 1 ∷ after 5 5 1312 0 1514 1 ∷
    after 9 9 1344 16 1670 2 ∷ after 20 10 1360 0 1709 2 ∷ [])
account5 = (refl, (refl, (refl, (refl, (refl, (refl, (refl, tt)))))))

-- (let ([v (: (make-vector 3 1) (Vect Dyn))]) (begin (vector-set! v 0 #t) (vector-ref v 0)))
account6 : Tells (Let (BindingThen 0 (Cast (Prim MakeVector (TermThen (IntLit (pos 3)) (TermThen (IntLit (pos 1))
    NoTerms))) 1 3 0) NoBindings) (Seq (TermThen (Seq (TermThen (Prim VectorSet (TermThen (Var 0) (TermThen (IntLit
    (pos 0)) (TermThen (Cast (BoolLit true) 4 2 1) NoTerms)))) (TermThen (Prim VectorRef (TermThen (Var 0) (TermThen
    (IntLit (pos 0)) NoTerms))) NoTerms))) NoTerms)))
    (IntRow ∷ VectRow 0 ∷ DynRow ∷ VectRow 2 ∷ BoolRow ∷ UnitRow ∷ []) (measured 22 1 2)
    (after 1 1 19 1296 79 2 ∷ after 2 2 1315 0 1397 2 ∷ after 4 4 1315 16 1473 2 ∷ after 20 8 1363 0 1625 2 ∷ [])
account6 = (refl, (refl, (refl, (refl, (refl, tt)))))

-- (make-vector -1 0)
account7 : Tells (Prim MakeVector (TermThen (IntLit (negsuc 0)) (TermThen (IntLit (pos 0)) NoTerms)))
    (IntRow ∷ VectRow 0 ∷ []) (measured 5 1 2)
    (after 0 0 0 0 21 0 ∷ after 1 1 0 0 42 0 ∷ after 2 1 0 0 42 0 ∷ [])
account7 = (refl, (refl, (refl, (refl, tt))))

-- (* (%/ 7 2) (%% 9 4))
account8 : Tells (Prim Mul (TermThen (Prim Quot (TermThen (IntLit (pos 7)) (TermThen (IntLit (pos 2)) NoTerms)))
    (TermThen (Prim Rem (TermThen (IntLit (pos 9)) (TermThen (IntLit (pos 4)) NoTerms))) NoTerms)))
    (IntRow ∷ []) (measured 8 0 2)
    (after 0 0 0 0 24 1 ∷ after 1 1 0 0 560 1 ∷ after 2 2 0 0 1096 1 ∷ after 3 3 0 0 1632 1 ∷ [])
account8 = (refl, (refl, (refl, (refl, (refl, tt)))))

-- (letrec ([f (lambda ([n : Int]) : Int (if (= n 0) 0 (+ 1 (f (- n 1)))))]) (f 2))
account9 : Tells (Group (MemberThen 0 (1 ∷ []) (Seq (TermThen (If (Prim Eq (TermThen (Var 1) (TermThen (IntLit (pos
    0)) NoTerms))) (IntLit (pos 0)) (Prim Add (TermThen (IntLit (pos 1)) (TermThen (Call (Var 0) (TermThen (Prim Sub
    (TermThen (Var 1) (TermThen (IntLit (pos 1)) NoTerms))) NoTerms)) NoTerms)))) NoTerms)) 1 NoMembers) (Seq
    (TermThen (Call (Var 0) (TermThen (IntLit (pos 2)) NoTerms)) NoTerms)))
    (IntRow ∷ FunRow (0 ∷ []) 0 ∷ BoolRow ∷ []) (measured 23 1 2)
    (after 0 0 0 108 39 0 ∷ after 1 1 108 0 78 0 ∷ after 5 5 108 0 234 1 ∷ after 9 9 108 0 390 2 ∷
    after 13 13 108 0 546 3 ∷ after 30 21 108 0 858 3 ∷ [])
unfolding int_wrap
account9 = (refl, (refl, (refl, (refl, (refl, (refl, (refl, tt)))))))

-- (tuple-proj (: (: (tuple 1 #t) Dyn) (Tuple Int Int)) 1)
account10 : Tells (Proj (Cast (Cast (Tuple (TermThen (IntLit (pos 1)) (TermThen (BoolLit true) NoTerms))) 2 3 0) 3 4
    1) (pos 1))
    (IntRow ∷ BoolRow ∷ TupleRow (0 ∷ 1 ∷ []) ∷ DynRow ∷ TupleRow (0 ∷ 0 ∷ []) ∷ []) (measured 11 1 2)
    (after 0 0 0 60 27 3 ∷ after 1 1 60 16 54 3 ∷ after 2 2 76 16 81 3 ∷ after 3 3 92 1296 108 3 ∷
    after 4 4 1388 0 1415 3 ∷ after 5 5 1388 0 1442 3 ∷ after 6 6 1388 16 1469 3 ∷ after 9 7 1404 0 1496 3 ∷ [])
account10 = (refl, (refl, (refl, (refl, (refl, (refl, (refl, (refl, (refl, tt)))))))))

-- (let ([t (: (tuple 7 (lambda (x) x)) Dyn)]) (tuple-proj t 0))
account11 : Tells (Let (BindingThen 1 (Cast (Tuple (TermThen (IntLit (pos 7)) (TermThen (Lambda (0 ∷ []) (Seq
    (TermThen (Var 0) NoTerms)) 2) NoTerms))) 3 1 0) NoBindings) (Seq (TermThen (ProjDyn (Var 1) (pos 0) 1)
    NoTerms)))
    (IntRow ∷ DynRow ∷ FunRow (1 ∷ []) 1 ∷ TupleRow (0 ∷ 2 ∷ []) ∷ []) (measured 16 2 2)
    (after 1 1 80 80 64 3 ∷ after 3 3 176 0 128 3 ∷ after 5 5 176 16 192 3 ∷ after 12 8 208 0 288 3 ∷ [])
account11 = (refl, (refl, (refl, (refl, (refl, tt)))))

-- (%/ 1 0)
account12 : Tells (Prim Quot (TermThen (IntLit (pos 1)) (TermThen (IntLit (pos 0)) NoTerms)))
    (IntRow ∷ []) (measured 4 0 2)
    (after 0 0 0 0 20 0 ∷ after 1 1 0 0 552 0 ∷ after 2 1 0 0 552 0 ∷ [])
account12 = (refl, (refl, (refl, (refl, tt))))

-- (begin (print-int (+ 40 2)) (newline) 7)
account13 : Tells (Seq (TermThen (Prim PrintInt (TermThen (Prim Add (TermThen (IntLit (pos 40)) (TermThen (IntLit (pos
    2)) NoTerms))) NoTerms)) (TermThen (Prim Newline NoTerms) (TermThen (IntLit (pos 7)) NoTerms))))
    (IntRow ∷ UnitRow ∷ []) (measured 9 0 2)
    (after 0 0 0 0 25 2 ∷ after 2 2 0 0 75 2 ∷ after 5 5 0 0 150 2 ∷ after 9 6 0 0 175 2 ∷ [])
account13 = (refl, (refl, (refl, (refl, (refl, tt)))))
