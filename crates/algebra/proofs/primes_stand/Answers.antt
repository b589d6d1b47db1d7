use Rattle.algebra.proofs.Primes.{prime_7681, prime_12289}
use Rattle.algebra.proofs.primes_stand.Goals as goal

pub returns : goal.returns
returns c = (prime_7681, prime_12289)
