use Rattle.std.proofs.Common.{arith, length-take}
use Rattle.frame.proofs.absorb.Goals as goal

-- no more are taken than there are
pub slice_bounds-absorb_body-end : goal.slice_bounds-absorb_body-end
slice_bounds-absorb_body-end c = simp length-take (omega arith)
