use Rattle.std.proofs.Common.{◌≡◌, length, ◌∙◌}
use Rattle.registers.proofs.Turning.{lent_size, lent_elements, returned_only, forward_placed, inverse_placed}
use Rattle.registers.proofs.turn.turn_register.Goals as goal

pub forward_layer-requires : goal.forward_layer-requires
forward_layer-requires g c =
    let ws = c.args.words.now in
    record {
      size = lent_size ws c.args.r.number c.requires.size c.args.r.known;
      all = lent_elements _ ws c.args.r.number c.requires.tested;
    }

pub returns-in-Forward : goal.returns-in-Forward
returns-in-Forward g c =
    let s = c.args.ring.now in
    let ws = c.args.words.now in
    let ys = c.forward_layer.new.words in
    let r = c.args.r in
    let layer = c.args.masked.now.layer in
    let room : length ys ≡ 256 = c.forward_layer.auto.words ∙ lent_size ws r.number c.requires.size r.known in
    record {
      only = returned_only ws ys r.number c.requires.size r.known room;
      means =
          rw c.in-Forward.is
          (forward_placed _ (g.met.G.GuardedRing.lawful s) _ (g.met.G.GuardedRing.joint s) ws ys r.number c.requires.size r.known room
          c.forward_layer.ensures.all layer.number layer.first layer.last _ _ c.forward_layer.ensures.went.layer);
    }

pub inverse_layer-requires : goal.inverse_layer-requires
inverse_layer-requires g c =
    let ws = c.args.words.now in
    record {
      size = lent_size ws c.args.r.number c.requires.size c.args.r.known;
      all = lent_elements _ ws c.args.r.number c.requires.tested;
    }

pub returns-in-Inverse : goal.returns-in-Inverse
returns-in-Inverse g c =
    let s = c.args.ring.now in
    let ws = c.args.words.now in
    let ys = c.inverse_layer.new.words in
    let r = c.args.r in
    let layer = c.args.masked.now.layer in
    let room : length ys ≡ 256 = c.inverse_layer.auto.words ∙ lent_size ws r.number c.requires.size r.known in
    record {
      only = returned_only ws ys r.number c.requires.size r.known room;
      means =
          rw c.in-Inverse.is
          (inverse_placed _ (g.met.G.GuardedRing.lawful s) _ (g.met.G.GuardedRing.joint s) ws ys r.number c.requires.size r.known room
          c.inverse_layer.ensures.all layer.number layer.first layer.last _ _ (λ i v. (c.inverse_layer.ensures.went i v).layer));
    }
