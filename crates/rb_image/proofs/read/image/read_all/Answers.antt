use Rattle.std.proofs.Common.{◌≡◌, nat_eq, true, Bor, List, length, ℕ, ap, sym, ◌∙◌, rules}
use Rattle.std.specs.Option.{option_map}
use Rattle.rb_image.proofs.Chains.{image_read}
use Rattle.rb_image.proofs.read.image.read_all.Goals as goal

pub returns : goal.returns
returns c =
    let ends : nat_eq (length c.in_ok-code.rest.now) 0 ≡ true = search rules steps 300000 in
    image_read c.args.bytes.now c.in-Some.rest.now c.in_ok-code.rest.now _ _ _
    (sym c.read_magic.ensures ∙ ap (option_map (λ (rest : Bor (List ℕ)). rest.now)) c.in-Some.is) c.in_ok-code.ensures ends
