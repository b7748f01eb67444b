-- What was put together is the image of its code.
use Rattle.std.proofs.Common.{ℕ, ◌^◌, ◌≤◌, ◌≡◌, List, length, refl, sym, subst}
use Rattle.grift_base.specs.declared.places.Pos.{Pos}
use Rattle.rv_machine.specs.declared.real.RealItem.{RealItem}
use Rattle.rv_machine.specs.Image.{labels_of}
use Rattle.assembler.specs.Imaging.{assembled}
use Rattle.assembler.specs.Assembled.{IsImageOf}
use Rattle.assembler.proofs.Following.{CodeFacts, does_as_code}
use Rattle.assembler.proofs.Plain.{runs_as_code}
use Rattle.assembler.proofs.Holding.{has_its_words}
use Rattle.assembler.proofs.Addresses.{has_addresses}

pub is_image_of : (image : List ℕ) (items : List RealItem) (statics : List ℕ) (labels : List Pos) →
    image ≡ assembled items statics labels → CodeFacts items statics labels → labels_of image ≡ labels →
    length items ≤ 2 ^ 40 → IsImageOf image items statics labels
is_image_of image items statics labels e facts read_back few =
    subst (λ (bytes : List ℕ). labels_of bytes ≡ labels → IsImageOf bytes items statics labels) (sym e)
    (λ same. record {
      bytes = refl;
      labels_are = same;
      few = few;
      few_statics = facts.few_statics;
      addresses = has_addresses facts;
      words = has_its_words facts;
      follows = λ reading. does_as_code facts reading;
      runs = λ reading. runs_as_code facts reading;
    }) read_back
