-- What the parts of the program answer.
use Rattle.assembler.specs.declared.image.ImageFault.{ImageFault}
use Rattle.assembler.specs.declared.image.ImageFault.TheVariants.{BadMagic, BadLength, BadSection}
use Rattle.grift_cli.specs.declared.reports.BadImage.{BadImage}
use Rattle.grift_cli.specs.declared.reports.BadImage.TheVariants.{Magic, Length, Section}

-- why the bytes of a file are no image, as a fault of reading them
abbrev pub image_fault : BadImage → ImageFault
image_fault Magic = BadMagic
image_fault Length = BadLength
image_fault Section = BadSection
