use Rattle.json_shape.proofs.Written.{shows_written}
use Rattle.json_shape.proofs.laws.written_json_presents.Goals as goal

pub returns : goal.returns
returns c = λ f v named typed. record { shows = shows_written f v named typed.is_of; typed = typed }
