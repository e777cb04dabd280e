-- What the answer of the whole reader says of the bytes.
use Rattle.std.proofs.Common.{◌≡◌, ℕ, ◌^◌, ◌<◌, List, [], ◌∷◌, length, map, Result, Some, None, Ok, Err, ◌++◌, sym, ap, ◌∙◌, arith}
use Rattle.std.specs.Prelude.{IfErr, IfOk}
use Rattle.std.specs.List.{AllByRecursion, zip}
use Rattle.std.proofs.lemmas.List.{length-map}
use Rattle.rb_base.specs.declared.names.Group.{Group}
use Rattle.rb_world.specs.Kind.{Membership}
use Rattle.rb_code.specs.Instructions.Plain.{Code, code as plain_code}
use Rattle.rb_image.specs.declared.raw.Raw.{Raw}
use Rattle.rb_image.specs.declared.refusal.FormRefusal.{FormRefusal}
use Rattle.rb_image.specs.declared.refusal.FormRefusal.TheVariants.{Form, Memory}
use Rattle.rb_nest.specs.Groups.{alternates, membership, memberships}
use Rattle.rb_image.specs.Pieces.{list}
use Rattle.rb_image.specs.Image.{code, group, magic}
use Rattle.rb_image.specs.Laws.{ImagesAreOfOne, IsImage, IsRefused}
use Rattle.rb_image.specs.Ranges.{InRanges, IsCode, IsGroup, IsNatural}
use Rattle.rb_image.specs.Reading.{Gives}
use Rattle.rb_image.specs.ReadParts.{image_at}
use Rattle.rb_image.proofs.Formats.{IsBytes, some_is, there}
use Rattle.rb_image.proofs.Parts.{IsCounted}
use Rattle.rb_image.proofs.Whole.{firsts_of_zip, image_takes, read_again, seconds_of_zip, zip_of_maps}

abbrev pub counted : Group → Membership × ℕ
counted one = (membership one, one.alternates)

abbrev view : Raw → Code × List (Membership × ℕ)
view raw = (plain_code raw.code, map (λ (one : Group). (membership one, one.alternates)) raw.nested.conversations.items)

groups_fit : (groups : List Group) → AllByRecursion IsCounted (map counted groups) → AllByRecursion IsGroup (map membership groups)
groups_fit [] fits = tt
groups_fit (one ∷ others) fits = (fits.0.0, groups_fit others fits.1)

counts_fit : (groups : List Group) → AllByRecursion IsCounted (map counted groups)
    → AllByRecursion IsNatural (map (λ (one : Group). one.alternates) groups)
counts_fit [] fits = tt
counts_fit (one ∷ others) fits = (fits.0.1, counts_fit others fits.1)

-- the groups of a list in memory are in their ranges
pub in_ranges : (c : Code) (groups : List Group) → IsCode c → length groups < 2 ^ 32 → AllByRecursion IsCounted (map counted groups)
    → InRanges c (map membership groups) (map (λ (one : Group). one.alternates) groups)
in_ranges c groups lists few fits = record {
  lists = lists;
  as_many = length-map groups (λ (one : Group). one.alternates) ∙ sym (length-map groups membership);
  few = omega (arith, few, length-map groups membership);
  conversations = groups_fit groups fits;
  alternates = counts_fit groups fits;
}

-- side by side they are the list of both
pub beside : (groups : List Group) → zip (map membership groups) (map (λ (one : Group). one.alternates) groups) ≡ map counted groups
beside groups = zip_of_maps membership (λ (one : Group). one.alternates) groups

pub is_found : (bytes : List ℕ) (r : Result Raw FormRefusal) → IsBytes bytes → Gives view r (image_at bytes)
    → IfOk r (λ raw. IsImage bytes (plain_code raw.code) (memberships raw.nested) (alternates raw.nested))
is_found bytes (Ok raw) fits read =
    let c = plain_code raw.code in
    let groups = raw.nested.conversations.items in
    let t = image_takes bytes (view raw) fits read in
    record {
      spelled = t.0 ∙ ap (λ (xs : List (Membership × ℕ)). magic ++ (code c ++ list group xs)) (sym (beside groups));
      ranges = in_ranges c groups t.1.0 (omega (arith, t.1.1.1, length-map groups counted)) t.1.1.0.1;
    }
is_found bytes (Err e) fits read = tt

not_none : {A : Type 0} (x : A) → there x ≡ None → ⊥
not_none x e = cc

pub is_refused : (bytes : List ℕ) (r : Result Raw FormRefusal) → Gives view r (image_at bytes) → IfErr r (IsRefused bytes)
is_refused bytes (Ok raw) read = tt
is_refused bytes (Err Memory) read = tt
is_refused bytes (Err Form) read = λ c groups counts image.
    let again : image_at bytes ≡ Some (c, zip groups counts) = ap image_at image.spelled ∙ read_again c groups counts image.ranges in
    not_none (c, zip groups counts) (sym again ∙ read)

pub images_are_of_one : ImagesAreOfOne
images_are_of_one bytes c d groups others counts numbers one other =
    let first : image_at bytes ≡ Some (c, zip groups counts) = ap image_at one.spelled ∙ read_again c groups counts one.ranges in
    let second : image_at bytes ≡ Some (d, zip others numbers) = ap image_at other.spelled ∙ read_again d others numbers other.ranges in
    let same : (c, zip groups counts) ≡ (d, zip others numbers) = some_is (c, zip groups counts) (d, zip others numbers) (sym first ∙ second) in
    let zips : zip groups counts ≡ zip others numbers = ap (λ (x : Code × List (Membership × ℕ)). x.1) same in (
      ap (λ (x : Code × List (Membership × ℕ)). x.0) same,
      sym (firsts_of_zip groups counts one.ranges.as_many) ∙ ap (map (λ (x : Membership × ℕ). x.0)) zips
          ∙ firsts_of_zip others numbers other.ranges.as_many,
      sym (seconds_of_zip groups counts one.ranges.as_many) ∙ ap (map (λ (x : Membership × ℕ). x.1)) zips
          ∙ seconds_of_zip others numbers other.ranges.as_many,
    )
