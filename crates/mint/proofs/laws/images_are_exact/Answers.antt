use Rattle.mint.proofs.Images.{numbers-image, IsImage-octets, octet_at}
use Rattle.mint.proofs.laws.images_are_exact.Goals as goal

pub returns : goal.returns
returns c = record {
  numbers = λ k ns h. numbers-image k ns h;
  image = λ k o other whole oct. (IsImage-octets k o other whole (octet_at o oct)).whole;
  ranged = λ k o other whole oct. (IsImage-octets k o other whole (octet_at o oct)).ranged;
}
