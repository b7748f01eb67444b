-- Small programs, elaborated: tuples, boxes, vectors and operators. What is expected was worked out apart.
use Rattle.std.proofs.Common.{◌≡◌, [], ◌∷◌, refl, pos, Some, None, true}
use Rattle.std.specs.Prelude.{codes}
use Rattle.grift_base.specs.declared.operators.PrimOp.TheVariants.{Add, Mul, Lt, Not, PrintInt, Newline, ReadInt}
use Rattle.grift_base.specs.declared.operators.PrimOp.TheVariants.{MakeBox, Unbox, BoxSet, MakeVector, VectorRef}
use Rattle.grift_base.specs.declared.operators.PrimOp.TheVariants.{VectorSet, VectorLength}
use Rattle.grift_base.specs.declared.refusals.RefusalKind.TheVariants.{NotConsistent, NotTuple, NoSuchPart, NotRef}
use Rattle.grift_base.specs.declared.refusals.RefusalKind.TheVariants.{NotVector, TypeTooLarge}
use Rattle.grift_base.specs.Types.{TypeRow, IntRow, BoolRow, UnitRow, DynRow, TupleRow, RefRow, VectRow}
use Rattle.core_calc.specs.Terms.{IntLit, BoolLit, UnitLit, Cast, Proj, ProjDyn, Tuple, Prim, terms_from}
use Rattle.surface_trees.specs.declared.names.Ident.TheVariants.{Source}
use Rattle.surface_trees.specs.Trees.{ExprAt, UnitNode, LetNode, AscribeNode, TupleNode, ProjNode, PrimNode, NoLets}
use Rattle.surface_trees.specs.Trees.{LetThen}
use Rattle.cast_rules.specs.Making.{then_make, Makes, Work, CastFrom, PartOf}
use Rattle.cast_rules.specs.Elaboration.{elaborate_program}
use Rattle.cast_insert.specs.Outcomes.{IsRefused}
use Rattle.cast_insert.proofs.Sketches.{at, answer, comes_to, int, truth, name, exprs, base}

-- (tuple 1 #t)
tuple_parts : elaborate_program (ExprAt (at 1) (TupleNode (exprs ((int 8 1) ∷ (truth 10 true) ∷ []))))
    ≡ Makes (answer (Tuple (terms_from ((IntLit (pos 1)) ∷ (BoolLit true) ∷ []))) 2 None)
    (record { types = (IntRow ∷ BoolRow ∷ TupleRow (0 ∷ 1 ∷ []) ∷ []); labels = []; casts = []; next = 0 })
unfolding then_make
tuple_parts = refl

-- (tuple-proj (tuple 1 #t) 1)
part_of_tuple : elaborate_program (ExprAt (at 1) (ProjNode (ExprAt (at 13) (TupleNode (exprs ((int 20 1) ∷ (truth 22
    true) ∷ [])))) (pos 1) (at 26)))
    ≡ Makes (answer (Proj (Tuple (terms_from ((IntLit (pos 1)) ∷ (BoolLit true) ∷ []))) (pos 1)) 1 None)
    (record { types = (IntRow ∷ BoolRow ∷ TupleRow (0 ∷ 1 ∷ []) ∷ []); labels = []; casts = []; next = 0 })
unfolding then_make
part_of_tuple = refl

-- (tuple-proj (tuple 1 2) 2)
no_such_part : comes_to (ExprAt (at 1) (ProjNode (ExprAt (at 13) (TupleNode (exprs ((int 20 1) ∷ (int 22 2)
    ∷ [])))) (pos 2) (at 25)))
    ≡ IsRefused NoSuchPart (at 25)
unfolding then_make
no_such_part = refl

-- (tuple-proj (: (tuple 1 #t) Dyn) 1)
part_of_dyn : elaborate_program (ExprAt (at 1) (ProjNode (ExprAt (at 13) (AscribeNode (ExprAt (at 16) (TupleNode
    (exprs ((int 23 1) ∷ (truth 25 true) ∷ [])))) (base 29 DynRow))) (pos 1) (at 34)))
    ≡ Makes (answer (ProjDyn (Cast (Tuple (terms_from ((IntLit (pos 1)) ∷ (BoolLit true) ∷ []))) 2 3 0) (pos 1) 0) 3
    None)
    (record {
      types = (IntRow ∷ BoolRow ∷ TupleRow (0 ∷ 1 ∷ []) ∷ DynRow ∷ []);
      labels = (at 13 ∷ []);
      casts =
          (CastFrom 0 2 3 None ∷ PartOf 0 (pos 1) ∷ []);
      next = 0;
    })
unfolding then_make
part_of_dyn = refl

-- (tuple-proj 5 0)
part_of_integer : comes_to (ExprAt (at 1) (ProjNode (int 13 5) (pos 0) (at 15)))
    ≡ IsRefused NotTuple (at 13)
unfolding then_make
part_of_integer = refl

-- (box 1)
box : elaborate_program (ExprAt (at 1) (PrimNode MakeBox (exprs ((int 6 1) ∷ []))))
    ≡ Makes (answer (Prim MakeBox (terms_from ((IntLit (pos 1)) ∷ []))) 1 None)
    (record { types = (IntRow ∷ RefRow 0 ∷ []); labels = []; casts = []; next = 0 })
unfolding then_make
box = refl

-- (unbox (box 1))
unbox_box : elaborate_program (ExprAt (at 1) (PrimNode Unbox (exprs ((ExprAt (at 8) (PrimNode MakeBox (exprs ((int 13
    1) ∷ [])))) ∷ []))))
    ≡ Makes (answer (Prim Unbox (terms_from ((Prim MakeBox (terms_from ((IntLit (pos 1)) ∷ []))) ∷ []))) 0 None)
    (record { types = (IntRow ∷ RefRow 0 ∷ []); labels = []; casts = []; next = 0 })
unfolding then_make
unbox_box = refl

-- (unbox (: (box 1) Dyn))
unbox_dyn : elaborate_program (ExprAt (at 1) (PrimNode Unbox (exprs ((ExprAt (at 8) (AscribeNode (ExprAt (at 11)
    (PrimNode MakeBox (exprs ((int 16 1) ∷ [])))) (base 19 DynRow))) ∷ []))))
    ≡ Makes (answer (Prim Unbox (terms_from ((Cast (Cast (Prim MakeBox (terms_from ((IntLit (pos 1)) ∷ []))) 1 2 0) 2
    3 0) ∷ []))) 2 None)
    (record {
      types = (IntRow ∷ RefRow 0 ∷ DynRow ∷ RefRow 2 ∷ []);
      labels = (at 8 ∷ []);
      casts = (CastFrom 0 1 2
          None ∷ CastFrom 0 2 3 (Some 0) ∷ []);
      next = 0;
    })
unfolding then_make
unbox_dyn = refl

-- (unbox 5)
unbox_integer : comes_to (ExprAt (at 1) (PrimNode Unbox (exprs ((int 8 5) ∷ []))))
    ≡ IsRefused NotRef (at 8)
unfolding then_make
unbox_integer = refl

-- (box-set! (box 1) 2)
set_box : elaborate_program (ExprAt (at 1) (PrimNode BoxSet (exprs ((ExprAt (at 11) (PrimNode MakeBox (exprs ((int 16
    1) ∷ [])))) ∷ (int 19 2) ∷ []))))
    ≡ Makes (answer (Prim BoxSet (terms_from ((Prim MakeBox (terms_from ((IntLit (pos 1)) ∷ []))) ∷ (IntLit (pos 2))
    ∷ []))) 2 None)
    (record { types = (IntRow ∷ RefRow 0 ∷ UnitRow ∷ []); labels = []; casts = []; next = 0 })
unfolding then_make
set_box = refl

-- (box-set! (box 1) (: 2 Dyn))
set_box_cast : elaborate_program (ExprAt (at 1) (PrimNode BoxSet (exprs ((ExprAt (at 11) (PrimNode MakeBox (exprs
    ((int 16 1) ∷ [])))) ∷ (ExprAt (at 19) (AscribeNode (int 22 2) (base 24 DynRow))) ∷ []))))
    ≡ Makes (answer (Prim BoxSet (terms_from ((Prim MakeBox (terms_from ((IntLit (pos 1)) ∷ []))) ∷ (Cast (Cast
    (IntLit (pos 2)) 0 2 0) 2 0 0) ∷ []))) 3 None)
    (record {
      types = (IntRow ∷ RefRow 0 ∷ DynRow ∷ UnitRow ∷ []);
      labels = (at 19 ∷ []);
      casts = (CastFrom 0 0 2
          None ∷ CastFrom 0 2 0 (Some 0) ∷ []);
      next = 0;
    })
unfolding then_make
set_box_cast = refl

-- (box-set! (: (box 1) Dyn) 2)
set_dyn : elaborate_program (ExprAt (at 1) (PrimNode BoxSet (exprs ((ExprAt (at 11) (AscribeNode (ExprAt (at 14)
    (PrimNode MakeBox (exprs ((int 19 1) ∷ [])))) (base 22 DynRow))) ∷ (int 27 2) ∷ []))))
    ≡ Makes (answer (Prim BoxSet (terms_from ((Cast (Cast (Prim MakeBox (terms_from ((IntLit (pos 1)) ∷ []))) 1 2 0)
    2 3 0) ∷ (Cast (IntLit (pos 2)) 0 2 1) ∷ []))) 4 None)
    (record {
      types = (IntRow ∷ RefRow 0 ∷ DynRow ∷ RefRow 2 ∷ UnitRow ∷ []);
      labels = (at 11 ∷ at 27 ∷ []);
      casts
          = (CastFrom 0 1 2 None ∷ CastFrom 0 2 3 (Some 0) ∷ CastFrom 1 0 2 None ∷ []);
      next = 0;
    })
unfolding then_make
set_dyn = refl

-- (box-set! (box 1) #t)
set_box_wrong : comes_to (ExprAt (at 1) (PrimNode BoxSet (exprs ((ExprAt (at 11) (PrimNode MakeBox (exprs
    ((int 16 1) ∷ [])))) ∷ (truth 19 true) ∷ []))))
    ≡ IsRefused NotConsistent (at 19)
unfolding then_make
set_box_wrong = refl

-- (make-vector 3 #t)
vector : elaborate_program (ExprAt (at 1) (PrimNode MakeVector (exprs ((int 14 3) ∷ (truth 16 true) ∷ []))))
    ≡ Makes (answer (Prim MakeVector (terms_from ((IntLit (pos 3)) ∷ (BoolLit true) ∷ []))) 2 None)
    (record { types = (IntRow ∷ BoolRow ∷ VectRow 1 ∷ []); labels = []; casts = []; next = 0 })
unfolding then_make
vector = refl

-- (make-vector (: 3 Dyn) ())
vector_cast : elaborate_program (ExprAt (at 1) (PrimNode MakeVector (exprs ((ExprAt (at 14) (AscribeNode (int 17 3)
    (base 19 DynRow))) ∷ (ExprAt (at 24) UnitNode) ∷ []))))
    ≡ Makes (answer (Prim MakeVector (terms_from ((Cast (Cast (IntLit (pos 3)) 0 1 0) 1 0 0) ∷ UnitLit ∷ []))) 3 None)
    (record {
      types = (IntRow ∷ DynRow ∷ UnitRow ∷ VectRow 2 ∷ []);
      labels = (at 14 ∷ []);
      casts = (CastFrom 0 0 1
          None ∷ CastFrom 0 1 0 (Some 0) ∷ []);
      next = 0;
    })
unfolding then_make
vector_cast = refl

-- (make-vector #t 0)
vector_wrong : comes_to (ExprAt (at 1) (PrimNode MakeVector (exprs ((truth 14 true) ∷ (int 17 0) ∷ []))))
    ≡ IsRefused NotConsistent (at 14)
unfolding then_make
vector_wrong = refl

-- (vector-ref (make-vector 3 #t) 1)
element : elaborate_program (ExprAt (at 1) (PrimNode VectorRef (exprs ((ExprAt (at 13) (PrimNode MakeVector (exprs
    ((int 26 3) ∷ (truth 28 true) ∷ [])))) ∷ (int 32 1) ∷ []))))
    ≡ Makes (answer (Prim VectorRef (terms_from ((Prim MakeVector (terms_from ((IntLit (pos 3)) ∷ (BoolLit true) ∷
    []))) ∷ (IntLit (pos 1)) ∷ []))) 1 None)
    (record { types = (IntRow ∷ BoolRow ∷ VectRow 1 ∷ []); labels = []; casts = []; next = 0 })
unfolding then_make
element = refl

-- (vector-ref (: (make-vector 3 0) Dyn) (: 0 Dyn))
element_dyn : elaborate_program (ExprAt (at 1) (PrimNode VectorRef (exprs ((ExprAt (at 13) (AscribeNode (ExprAt (at
    16) (PrimNode MakeVector (exprs ((int 29 3) ∷ (int 31 0) ∷ [])))) (base 34 DynRow))) ∷ (ExprAt (at 39)
    (AscribeNode (int 42 0) (base 44 DynRow))) ∷ []))))
    ≡ Makes (answer (Prim VectorRef (terms_from ((Cast (Cast (Prim MakeVector (terms_from ((IntLit (pos 3)) ∷ (IntLit
    (pos 0)) ∷ []))) 1 2 0) 2 3 0) ∷ (Cast (Cast (IntLit (pos 0)) 0 2 1) 2 0 1) ∷ []))) 2 None)
    (record {
      types = (IntRow ∷ VectRow 0 ∷ DynRow ∷ VectRow 2 ∷ []);
      labels = (at 13 ∷ at 39 ∷ []);
      casts =
          (CastFrom 0 1 2 None ∷ CastFrom 0 2 3 (Some 0) ∷ CastFrom 1 0 2 None ∷ CastFrom 1 2 0 (Some 2) ∷ []);
      next =
          0;
    })
unfolding then_make
element_dyn = refl

-- (vector-set! (make-vector 1 0) 0 1)
set_element : elaborate_program (ExprAt (at 1) (PrimNode VectorSet (exprs ((ExprAt (at 14) (PrimNode MakeVector
    (exprs ((int 27 1) ∷ (int 29 0) ∷ [])))) ∷ (int 32 0) ∷ (int 34 1) ∷ []))))
    ≡ Makes (answer (Prim VectorSet (terms_from ((Prim MakeVector (terms_from ((IntLit (pos 1)) ∷ (IntLit (pos 0)) ∷
    []))) ∷ (IntLit (pos 0)) ∷ (IntLit (pos 1)) ∷ []))) 2 None)
    (record { types = (IntRow ∷ VectRow 0 ∷ UnitRow ∷ []); labels = []; casts = []; next = 0 })
unfolding then_make
set_element = refl

-- (vector-set! (: (make-vector 1 0) Dyn) (: 0 Dyn) 1)
set_element_dyn : elaborate_program (ExprAt (at 1) (PrimNode VectorSet (exprs ((ExprAt (at 14) (AscribeNode (ExprAt
    (at 17) (PrimNode MakeVector (exprs ((int 30 1) ∷ (int 32 0) ∷ [])))) (base 35 DynRow))) ∷ (ExprAt (at 40)
    (AscribeNode (int 43 0) (base 45 DynRow))) ∷ (int 50 1) ∷ []))))
    ≡ Makes (answer (Prim VectorSet (terms_from ((Cast (Cast (Prim MakeVector (terms_from ((IntLit (pos 1)) ∷ (IntLit
    (pos 0)) ∷ []))) 1 2 0) 2 3 0) ∷ (Cast (Cast (IntLit (pos 0)) 0 2 1) 2 0 1) ∷ (Cast (IntLit (pos 1)) 0 2 2) ∷
    []))) 4 None)
    (record {
      types = (IntRow ∷ VectRow 0 ∷ DynRow ∷ VectRow 2 ∷ UnitRow ∷ []);
      labels = (at 14 ∷ at 40 ∷ at 50 ∷
          []);
      casts = (CastFrom 0 1 2 None ∷ CastFrom 0 2 3 (Some 0) ∷ CastFrom 1 0 2 None ∷ CastFrom 1 2 0 (Some 2) ∷
          CastFrom 2 0 2 None ∷ []);
      next = 0;
    })
unfolding then_make
set_element_dyn = refl

-- (vector-length (make-vector 1 0))
length_vector : elaborate_program (ExprAt (at 1) (PrimNode VectorLength (exprs ((ExprAt (at 16) (PrimNode MakeVector
    (exprs ((int 29 1) ∷ (int 31 0) ∷ [])))) ∷ []))))
    ≡ Makes (answer (Prim VectorLength (terms_from ((Prim MakeVector (terms_from ((IntLit (pos 1)) ∷ (IntLit (pos 0))
    ∷ []))) ∷ []))) 0 None)
    (record { types = (IntRow ∷ VectRow 0 ∷ []); labels = []; casts = []; next = 0 })
unfolding then_make
length_vector = refl

-- (vector-length (: (make-vector 1 0) Dyn))
length_dyn : elaborate_program (ExprAt (at 1) (PrimNode VectorLength (exprs ((ExprAt (at 16) (AscribeNode (ExprAt (at
    19) (PrimNode MakeVector (exprs ((int 32 1) ∷ (int 34 0) ∷ [])))) (base 37 DynRow))) ∷ []))))
    ≡ Makes (answer (Prim VectorLength (terms_from ((Cast (Cast (Prim MakeVector (terms_from ((IntLit (pos 1)) ∷
    (IntLit (pos 0)) ∷ []))) 1 2 0) 2 3 0) ∷ []))) 0 None)
    (record {
      types = (IntRow ∷ VectRow 0 ∷ DynRow ∷ VectRow 2 ∷ []);
      labels = (at 16 ∷ []);
      casts = (CastFrom 0 1
          2 None ∷ CastFrom 0 2 3 (Some 0) ∷ []);
      next = 0;
    })
unfolding then_make
length_dyn = refl

-- (vector-length (box 1))
length_box : comes_to (ExprAt (at 1) (PrimNode VectorLength (exprs ((ExprAt (at 16) (PrimNode MakeBox (exprs
    ((int 21 1) ∷ [])))) ∷ []))))
    ≡ IsRefused NotVector (at 16)
unfolding then_make
length_box = refl

-- (+ 1 2)
sum : elaborate_program (ExprAt (at 1) (PrimNode Add (exprs ((int 4 1) ∷ (int 6 2) ∷ []))))
    ≡ Makes (answer (Prim Add (terms_from ((IntLit (pos 1)) ∷ (IntLit (pos 2)) ∷ []))) 0 None)
    (record { types = (IntRow ∷ []); labels = []; casts = []; next = 0 })
unfolding then_make
sum = refl

-- what a cast from this row to Dyn, and the one back, leave behind
abbrev through_dyn : TypeRow → Work
through_dyn row = record {
  types = row ∷ DynRow ∷ [];
  labels = at 6 ∷ [];
  casts = CastFrom 0 0 1 None ∷ CastFrom 0 1 0 (Some 0) ∷ [];
  next = 0;
}

-- (+ 1 (: 2 Dyn))
sum_cast : elaborate_program (ExprAt (at 1) (PrimNode Add (exprs ((int 4 1) ∷ (ExprAt (at 6) (AscribeNode (int 9 2)
    (base 11 DynRow))) ∷ []))))
    ≡ Makes (answer (Prim Add (terms_from ((IntLit (pos 1)) ∷ (Cast (Cast (IntLit (pos 2)) 0 1 0) 1 0 0) ∷ []))) 0
    None)
    (through_dyn IntRow)
unfolding then_make
sum_cast = refl

-- (+ #t x)
sum_wrong : comes_to (ExprAt (at 1) (PrimNode Add (exprs ((truth 4 true) ∷ (name 7 (codes "x")) ∷ []))))
    ≡ IsRefused NotConsistent (at 4)
unfolding then_make
sum_wrong = refl

-- (< 1 2)
less : elaborate_program (ExprAt (at 1) (PrimNode Lt (exprs ((int 4 1) ∷ (int 6 2) ∷ []))))
    ≡ Makes (answer (Prim Lt (terms_from ((IntLit (pos 1)) ∷ (IntLit (pos 2)) ∷ []))) 1 None)
    (record { types = (IntRow ∷ BoolRow ∷ []); labels = []; casts = []; next = 0 })
unfolding then_make
less = refl

-- (not #t)
not_truth : elaborate_program (ExprAt (at 1) (PrimNode Not (exprs ((truth 6 true) ∷ []))))
    ≡ Makes (answer (Prim Not (terms_from ((BoolLit true) ∷ []))) 0 None)
    (record { types = (BoolRow ∷ []); labels = []; casts = []; next = 0 })
unfolding then_make
not_truth = refl

-- (not (: #t Dyn))
not_dyn : elaborate_program (ExprAt (at 1) (PrimNode Not (exprs ((ExprAt (at 6) (AscribeNode (truth 9 true) (base 12
    DynRow))) ∷ []))))
    ≡ Makes (answer (Prim Not (terms_from ((Cast (Cast (BoolLit true) 0 1 0) 1 0 0) ∷ []))) 0 None)
    (through_dyn BoolRow)
unfolding then_make
not_dyn = refl

-- (print-int (* 2 3))
print : elaborate_program (ExprAt (at 1) (PrimNode PrintInt (exprs ((ExprAt (at 12) (PrimNode Mul (exprs ((int 15 2)
    ∷ (int 17 3) ∷ [])))) ∷ []))))
    ≡ Makes (answer (Prim PrintInt (terms_from ((Prim Mul (terms_from ((IntLit (pos 2)) ∷ (IntLit (pos 3)) ∷ []))) ∷
    []))) 1 None)
    (record { types = (IntRow ∷ UnitRow ∷ []); labels = []; casts = []; next = 0 })
unfolding then_make
print = refl

-- (newline)
line : elaborate_program (ExprAt (at 1) (PrimNode Newline (exprs [])))
    ≡ Makes (answer (Prim Newline (terms_from [])) 0 None)
    (record { types = (UnitRow ∷ []); labels = []; casts = []; next = 0 })
unfolding then_make
line = refl

-- (read-int)
input : elaborate_program (ExprAt (at 1) (PrimNode ReadInt (exprs [])))
    ≡ Makes (answer (Prim ReadInt (terms_from [])) 0 None)
    (record { types = (IntRow ∷ []); labels = []; casts = []; next = 0 })
unfolding then_make
input = refl

-- (let ([a (tuple 1 1 1 1 1 1 1 1)]) (let ([b (tuple a a a a a a a a)]) (let ([c (tuple b b b b b b b b)]) (tuple c
-- c))))
too_large : comes_to (ExprAt (at 1) (LetNode (LetThen (Source (codes "a")) None (ExprAt (at 10) (TupleNode
    (exprs ((int 17 1) ∷ (int 19 1) ∷ (int 21 1) ∷ (int 23 1) ∷ (int 25 1) ∷ (int 27 1) ∷ (int 29 1) ∷ (int 31 1) ∷
    [])))) NoLets) (exprs ((ExprAt (at 36) (LetNode (LetThen (Source (codes "b")) None (ExprAt (at 45) (TupleNode
    (exprs ((name 52 (codes "a")) ∷ (name 54 (codes "a")) ∷ (name 56 (codes "a")) ∷ (name 58 (codes "a")) ∷ (name 60
    (codes "a")) ∷ (name 62 (codes "a")) ∷ (name 64 (codes "a")) ∷ (name 66 (codes "a")) ∷ [])))) NoLets) (exprs
    ((ExprAt (at 71) (LetNode (LetThen (Source (codes "c")) None (ExprAt (at 80) (TupleNode (exprs ((name 87 (codes
    "b")) ∷ (name 89 (codes "b")) ∷ (name 91 (codes "b")) ∷ (name 93 (codes "b")) ∷ (name 95 (codes "b")) ∷ (name 97
    (codes "b")) ∷ (name 99 (codes "b")) ∷ (name 101 (codes "b")) ∷ [])))) NoLets) (exprs ((ExprAt (at 106)
    (TupleNode (exprs ((name 113 (codes "c")) ∷ (name 115 (codes "c")) ∷ [])))) ∷ [])))) ∷ [])))) ∷ []))))
    ≡ IsRefused TypeTooLarge (at 106)
unfolding then_make
too_large = refl
