use Rattle.object_layout.proofs.Places.{an_address_is_that_of_one_object}
use Rattle.object_layout.proofs.laws.an_address_is_that_of_one_object.Goals as goal

pub returns : goal.returns
returns c = λ from place other at headers header another there here.
    an_address_is_that_of_one_object from headers place other at header another there here
