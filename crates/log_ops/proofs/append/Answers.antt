use mathlib.Core.Path.{refl}
use Rattle.log_ops.proofs.append.Goals as goal

pub returns : goal.returns
returns c = (refl, c.apply.ensures, c.put_record.ensures, refl)
