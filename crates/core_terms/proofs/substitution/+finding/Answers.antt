use Rattle.std.proofs.Common.{ap}
use Rattle.core_calc.specs.Views.{term_of}
use Rattle.core_terms.proofs.substitution.+finding.Goals as goal

-- what is found in a term is what is found in its parts, in order

pub find-returns-in_ok-hole-in-Var : goal.find-returns-in_ok-hole-in-Var
find-returns-in_ok-hole-in-Var t c =
    rw (ap term_of c.in-Var.is, ← c.in_ok-hole-in-Var.ensures) c.push_hole.ensures

pub find-returns-in-Lambda : goal.find-returns-in-Lambda
find-returns-in-Lambda t c =
    rw (ap term_of c.in-Lambda.is, ← c.deref.ensures, ← c.as_slice.ensures) c.find_under.ensures

pub find-returns-in_ok-find_in_members-in-Group-2 : goal.find-returns-in_ok-find_in_members-in-Group-2
find-returns-in_ok-find_in_members-in-Group-2 t c =
    let hidden = rw c.in_default.is at c.in_ok-left-in-Group.ensures in
    rw (
      ap term_of c.in-Group.is,
      hidden,
      ← c.deref-in-Group.ensures,
      ← c.in_ok-find_in_members-in-Group-2.ensures,
    ) c.find-in-Group.ensures

pub find-returns-in_ok-find-in-If-2 : goal.find-returns-in_ok-find-in-If-2
find-returns-in_ok-find-in-If-2 t c =
    rw (
      ap term_of c.in-If.is,
      ← c.deref-in-If.ensures,
      ← c.in_ok-find-in-If.ensures,
      ← c.deref-in-If-2.ensures,
      ← c.in_ok-find-in-If-2.ensures,
      ← c.deref-in-If-3.ensures,
    ) c.find-in-If-3.ensures
