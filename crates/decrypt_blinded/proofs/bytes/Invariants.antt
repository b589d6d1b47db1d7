use Rattle.std.proofs.Common.{◌≡◌, vec_len}
use Rattle.decrypt_blinded.proofs.bytes.Given as goal

abbrev pub invariant-loop-n : goal.invariant-loop-n
invariant-loop-n l = vec_len l.all ≡ l.n-index
