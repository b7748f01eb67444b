-- The number and the text of each kind of refusal.
use Rattle.std.specs.Prelude.{ℕ, List, codes}
use Rattle.grift_base.specs.declared.refusals.RefusalKind.{RefusalKind}
use Rattle.grift_base.specs.declared.refusals.RefusalKind.TheVariants.{BadByte, Unclosed, Unopened, NumberRange}
use Rattle.grift_base.specs.declared.refusals.RefusalKind.TheVariants.{TooDeep, Empty, NotInProfile, BadForm}
use Rattle.grift_base.specs.declared.refusals.RefusalKind.TheVariants.{RepeatedName, TooWide, TooManyForms}
use Rattle.grift_base.specs.declared.refusals.RefusalKind.TheVariants.{ReservedName, Unbound, NotConsistent}
use Rattle.grift_base.specs.declared.refusals.RefusalKind.TheVariants.{NotFunction, WrongCount, NotTuple, NoSuchPart}
use Rattle.grift_base.specs.declared.refusals.RefusalKind.TheVariants.{NotRef, NotVector, TypeTooLarge}

abbrev pub refusal_row : RefusalKind → ℕ × List ℕ
refusal_row BadByte = (1, codes "bad-byte")
refusal_row Unclosed = (2, codes "unclosed")
refusal_row Unopened = (3, codes "unopened")
refusal_row NumberRange = (4, codes "number-range")
refusal_row TooDeep = (5, codes "too-deep")
refusal_row Empty = (6, codes "empty")
refusal_row NotInProfile = (7, codes "not-in-profile")
refusal_row BadForm = (8, codes "bad-form")
refusal_row RepeatedName = (9, codes "repeated-name")
refusal_row TooWide = (10, codes "too-wide")
refusal_row TooManyForms = (11, codes "too-many-forms")
refusal_row ReservedName = (12, codes "reserved-name")
refusal_row Unbound = (13, codes "unbound")
refusal_row NotConsistent = (14, codes "not-consistent")
refusal_row NotFunction = (15, codes "not-function")
refusal_row WrongCount = (16, codes "wrong-count")
refusal_row NotTuple = (17, codes "not-tuple")
refusal_row NoSuchPart = (18, codes "no-such-part")
refusal_row NotRef = (19, codes "not-ref")
refusal_row NotVector = (20, codes "not-vector")
refusal_row TypeTooLarge = (21, codes "type-too-large")

abbrev pub refusal_number : RefusalKind → ℕ
refusal_number kind = (refusal_row kind).0

abbrev pub refusal_text : RefusalKind → List ℕ
refusal_text kind = (refusal_row kind).1
