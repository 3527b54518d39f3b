use Rattle.std.proofs.Common.{arith, length-take}
use Rattle.std.proofs.lemmas.List.{get_or-take, get_or_default}
use Rattle.heap.proofs.Sifts.{first}
use Rattle.heap.proofs.front.Goals as goal

pub returns : goal.returns
returns g c = search (arith, length-take, c.index-slots-0.is, get_or_default, get_or-take, first g.met.T.Ord.total)
