use Rattle.assembler.proofs.expansion.put_far.Goals as goal

pub returns-in-Jump-clause-words : goal.returns-in-Jump-clause-words
returns-in-Jump-clause-words c = rw c.in-Jump.is c.put_far_jump.ensures.words

pub returns-in-Jump-clause-decode : goal.returns-in-Jump-clause-decode
returns-in-Jump-clause-decode c = rw c.in-Jump.is c.put_far_jump.ensures.decode

pub returns-in-Branch-clause-words : goal.returns-in-Branch-clause-words
returns-in-Branch-clause-words c = rw c.in-Branch.is c.put_far_branch.ensures.words

pub returns-in-Branch-clause-decode : goal.returns-in-Branch-clause-decode
returns-in-Branch-clause-decode c = rw c.in-Branch.is c.put_far_branch.ensures.decode

pub returns-in-Address-clause-words : goal.returns-in-Address-clause-words
returns-in-Address-clause-words c = rw c.in-Address.is c.put_far_address.ensures.words

pub returns-in-Address-clause-decode : goal.returns-in-Address-clause-decode
returns-in-Address-clause-decode c = rw c.in-Address.is c.put_far_address.ensures.decode
