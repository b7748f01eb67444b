use Rattle.lowered_code.proofs.operations.Emitter.perform.Goals as goal

pub returns-in-Proj : goal.returns-in-Proj
returns-in-Proj c = rw c.in-Proj.is c.proj.ensures

pub returns-in-ProjDyn : goal.returns-in-ProjDyn
returns-in-ProjDyn c = rw c.in-ProjDyn.is c.proj_dyn.ensures
