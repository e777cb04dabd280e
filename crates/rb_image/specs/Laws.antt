-- What is said of images, and their laws.
use Rattle.std.specs.Prelude.{◌≡◌, ℕ, List}
use Rattle.rb_world.specs.Kind.{Membership}
use Rattle.rb_code.specs.Instructions.Plain.{Code}
use Rattle.rb_image.specs.declared.refusal.FormRefusal.{FormRefusal}
use Rattle.rb_image.specs.declared.refusal.FormRefusal.TheVariants.{Form, Memory}
use Rattle.rb_image.specs.Image.{image_of}
use Rattle.rb_image.specs.Ranges.{InRanges}

-- the bytes are the image of this code with its conversations and their numbers of alternates
pub record IsImage (bytes : List ℕ) (c : Code) (groups : List Membership) (counts : List ℕ) : Type 0 where
  pub spelled : bytes ≡ image_of c groups counts
  pub ranges : InRanges c groups counts

-- the bytes are no image
abbrev pub IsNoImage : List ℕ → Type 0
IsNoImage bytes = (c : Code) (groups : List Membership) (counts : List ℕ) → IsImage bytes c groups counts → ⊥

-- what a refusal says of the bytes
abbrev pub IsRefused : List ℕ → FormRefusal → Type 0
IsRefused bytes Form = IsNoImage bytes
IsRefused bytes Memory = Unit {0}

-- an image is that of one code and of its conversations alone
abbrev pub ImagesAreOfOne : Type 0
ImagesAreOfOne = (bytes : List ℕ) (c d : Code) (groups others : List Membership) (counts numbers : List ℕ) →
    IsImage bytes c groups counts → IsImage bytes d others numbers → (c ≡ d) × (groups ≡ others) × (counts ≡ numbers)
