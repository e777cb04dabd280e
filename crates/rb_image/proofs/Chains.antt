-- What was read fails where a part of it does.
use Rattle.std.proofs.Common.{◌≡◌, nat_eq, Bool, cond, List, length, ℕ, Option, None, Some, ap, ◌∙◌}
use Rattle.rb_image.specs.declared.refusal.FormRefusal.{FormRefusal}
use Rattle.rb_image.specs.declared.refusal.FormRefusal.TheVariants.{Form, Memory}
use Rattle.rb_image.specs.Reading.{◌>>=◌, Fails, Reading, both, few_at, made}
use Rattle.rb_image.specs.ReadParts.{behind_magic, code_at, group_at, image_at}
use Rattle.rb_world.specs.Kind.{Membership}
use Rattle.rb_code.specs.Instructions.Plain.{Code}

pub fails_with : {A B : Type 0} (e : FormRefusal) (part : Option A) (whole : Option B) → Fails e part → (part ≡ None → whole ≡ None) → Fails e whole
fails_with Memory part whole h f = tt
fails_with Form part whole h f = f h

-- what is made of what was read
pub made_as : {X Y : Type 0} (f : X → Y) (reading : Reading X) (bytes : List ℕ) (x : X × List ℕ) (y : Y) → reading bytes ≡ Some x
    → f x.0 ≡ y → made f reading bytes ≡ Some (y, x.1)
made_as f reading bytes x y e is = ap (λ read. read >>= λ z. Some (f z.0, z.1)) e ∙ ap (λ z. Some (z, x.1)) is

pub made_fails : {X Y : Type 0} (e : FormRefusal) (f : X → Y) (reading : Reading X) (bytes : List ℕ) → Fails e (reading bytes)
    → Fails e (made f reading bytes)
made_fails Memory f reading bytes fails = tt
made_fails Form f reading bytes fails = ap (λ read. read >>= λ z. Some (f z.0, z.1)) fails

-- two, one behind the other
pub both_as : {X Y : Type 0} (first : Reading X) (second : Reading Y) (bytes : List ℕ) (x : X × List ℕ) (y : Y × List ℕ) → first bytes ≡ Some x
    → second x.1 ≡ Some y → both first second bytes ≡ Some ((x.0, y.0), y.1)
both_as first second bytes x y one two =
    ap (λ read. read >>= λ z. second z.1 >>= λ w. Some ((z.0, w.0), w.1)) one
    ∙ ap (λ read. read >>= λ w. Some ((x.0, w.0), w.1)) two

-- the whole, where its parts were read
pub image_read : (bytes rest behind : List ℕ) (code : Code) (groups : List (Membership × ℕ)) (ends : Bool) → behind_magic bytes ≡ Some rest
    → both code_at (few_at 24 group_at) rest ≡ Some ((code, groups), behind) → nat_eq (length behind) 0 ≡ ends
    → image_at bytes ≡ cond ends (Some (code, groups)) None
unfolding image_at
image_read bytes rest behind code groups ends begins parts done =
    ap (λ read. read >>= λ t. both code_at (few_at 24 group_at) t >>= λ x. cond (nat_eq (length x.1) 0) (Some x.0) None) begins
    ∙ ap (λ read. read >>= λ x. cond (nat_eq (length x.1) 0) (Some x.0) None) parts
    ∙ ap (λ end. cond end (Some (code, groups)) None) done
