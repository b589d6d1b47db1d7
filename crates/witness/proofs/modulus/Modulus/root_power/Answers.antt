use Prim.Native.Nat.{◌^◌}
use Rattle.algebra.proofs.Remainders.{mean_guard}
use Rattle.witness.proofs.modulus.Modulus.root_power.Goals as goal

pub returns : goal.returns
returns g c =
    let modulus = c.args.self.now in
    let s = modulus.ring.now in
    rw (c.split.ensures.check, c.power.ensures.means, modulus.checks, g.met.G.GuardedRing.joint s) (mean_guard (g.G.GuardedRing.check s) (g.G.Ring.root s ^ c.args.e))
