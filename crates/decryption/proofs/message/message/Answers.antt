use Rattle.std.proofs.Common.{◌≡◌, ◌*◌, rules, arith}
use Rattle.decryption.specs.Message.{byte_at}
use Rattle.decryption.proofs.Calls.{made}
use Rattle.decryption.proofs.message.message.Goals as goal

pub returns : goal.returns
returns c = λ n h.
    made _ _ (λ n y. y ≡ byte_at c.args.w.now (8 * n)) (λ i y q call. search rules) _ 0 32 c.from_fn.ensures.items.each n (omega arith) (omega arith)
