-- `put_list` meets its contract.
use native.Mathlib.Omega.{arith}
use lib.ListN.{length-take}
use Rattle.account.proofs.put_list.Goals as goal

pub slice_bounds-put_instructions-end : goal.slice_bounds-put_instructions-end
slice_bounds-put_instructions-end c =
    omega (arith, length-take c.args.size c.args.room.now, c.requires)
