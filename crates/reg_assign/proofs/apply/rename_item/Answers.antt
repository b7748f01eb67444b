use Rattle.reg_assign.proofs.apply.rename_item.Goals as goal

pub returns-in_ok-new_name-in-Compute : goal.returns-in_ok-new_name-in-Compute
returns-in_ok-new_name-in-Compute c =
    rw (
      c.in-Compute.is,
      c.in_ok-rd-in-Compute.ensures,
      c.in_ok-a-in-Compute.ensures,
      c.in_ok-new_name-in-Compute.ensures,
    )

pub returns-in_ok-new_name-in-ComputeWith : goal.returns-in_ok-new_name-in-ComputeWith
returns-in_ok-new_name-in-ComputeWith c =
    rw (c.in-ComputeWith.is, c.in_ok-rd-in-ComputeWith.ensures, c.in_ok-new_name-in-ComputeWith.ensures)

pub returns-in_ok-new_name-in-Load : goal.returns-in_ok-new_name-in-Load
returns-in_ok-new_name-in-Load c = rw (c.in-Load.is, c.in_ok-rd-in-Load.ensures, c.in_ok-new_name-in-Load.ensures)

pub returns-in_ok-new_name-in-Store : goal.returns-in_ok-new_name-in-Store
returns-in_ok-new_name-in-Store c = rw (c.in-Store.is, c.in_ok-b-in-Store.ensures, c.in_ok-new_name-in-Store.ensures)

pub returns-in_ok-new_name-in-Branch : goal.returns-in_ok-new_name-in-Branch
returns-in_ok-new_name-in-Branch c =
    rw (c.in-Branch.is, c.in_ok-a-in-Branch.ensures, c.in_ok-new_name-in-Branch.ensures)

pub returns-in_ok-new_name-in-Constant : goal.returns-in_ok-new_name-in-Constant
returns-in_ok-new_name-in-Constant c = rw (c.in-Constant.is, c.in_ok-new_name-in-Constant.ensures)
