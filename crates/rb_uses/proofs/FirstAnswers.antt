-- Questions to lists, and to those among uses that join a conversation.
use Rattle.std.proofs.Common.{◌≡◌, Bool, true, false, cond, ◌||◌, List, [], ◌∷◌, ◌++◌, map, reverse, Option, Some, None, refl, sym, ap, ◌∙◌}
use Rattle.std.specs.List.{list_any}
use Rattle.std.proofs.lemmas.List.{reverse-append}
use Rattle.std.proofs.lemmas.List.Folds.{list_any-append}
use Rattle.rb_meaning.specs.Environment.{or_else}
use Rattle.rb_nest.specs.Answers.{first_answer}
use Rattle.rb_uses.specs.Memory.{all_held, held}
use Rattle.rb_uses.specs.Summary.{Summary, is_join, joins_among, joins_like}
use Rattle.rb_uses.specs.declared.usage.Use.{Use}

pub or_assoc : {B : Type 0} (a b c : Option B) → or_else (or_else a b) c ≡ or_else a (or_else b c)
or_assoc None b c = refl
or_assoc (Some x) b c = refl

-- a list, and then another
pub answer-append : {A B : Type 0} (q : A → Option B) (xs ys : List A)
    → first_answer q (xs ++ ys) ≡ or_else (first_answer q xs) (first_answer q ys)
answer-append q [] ys = refl
answer-append q (x ∷ xs) ys = ap (or_else (q x)) (answer-append q xs ys) ∙ sym (or_assoc (q x) (first_answer q xs) (first_answer q ys))

-- two questions with the same answers, the one to a list and the other to what it was made of
pub answer-map : {A B D : Type 0} (q : B → Option D) (r : A → Option D) (f : A → B) → ((x : A) → q (f x) ≡ r x) → (xs : List A)
    → first_answer q (map f xs) ≡ first_answer r xs
answer-map q r f h [] = refl
answer-map q r f h (x ∷ xs) =
    ap (λ a. or_else a (first_answer q (map f xs))) (h x) ∙ ap (or_else (r x)) (answer-map q r f h xs)

pub any-map : {A B : Type 0} (t : B → Bool) (s : A → Bool) (f : A → B) → ((x : A) → t (f x) ≡ s x) → (xs : List A)
    → list_any t (map f xs) ≡ list_any s xs
any-map t s f h [] = refl
any-map t s f h (x ∷ xs) = ap (λ b. b || list_any t (map f xs)) (h x) ∙ ap (λ b. s x || b) (any-map t s f h xs)

-- only the joins answer
join-answer : {B : Type 0} (q : Summary → Option B) (one : Summary) (xs : List Summary) (b : Bool)
    → (b ≡ false → q one ≡ None) → first_answer q (cond b (one ∷ xs) xs) ≡ or_else (q one) (first_answer q xs)
join-answer q one xs true h = refl
join-answer q one xs false h = sym (ap (λ a. or_else a (first_answer q xs)) (h refl))

-- a question that only joins answer has the first answer that a join gives
pub answer-joins : {B : Type 0} (q : Summary → Option B) → ((one : Summary) → is_join one.deed ≡ false → q one ≡ None)
    → (uses : List Summary) → first_answer q (joins_among uses) ≡ first_answer q uses
answer-joins q h [] = refl
answer-joins q h (one ∷ uses) =
    join-answer q one (joins_among uses) (is_join one.deed) (h one) ∙ ap (or_else (q one)) (answer-joins q h uses)

join-any : (t : Summary → Bool) (one : Summary) (xs : List Summary) (b : Bool) → (b ≡ false → t one ≡ false)
    → list_any t (cond b (one ∷ xs) xs) ≡ t one || list_any t xs
join-any t one xs true h = refl
join-any t one xs false h = sym (ap (λ a. a || list_any t xs) (h refl))

-- the same for a test that only joins pass
pub any-joins : (t : Summary → Bool) → ((one : Summary) → is_join one.deed ≡ false → t one ≡ false)
    → (uses : List Summary) → list_any t (joins_among uses) ≡ list_any t uses
any-joins t h [] = refl
any-joins t h (one ∷ uses) =
    join-any t one (joins_among uses) (is_join one.deed) (h one) ∙ ap (λ b. t one || b) (any-joins t h uses)

-- a test passes in either direction
or-last : (a b : Bool) → a || (b || false) ≡ b || a
or-last true true = refl
or-last true false = refl
or-last false true = refl
or-last false false = refl

pub any-reverse : {A : Type 0} (t : A → Bool) (xs : List A) → list_any t (reverse xs) ≡ list_any t xs
any-reverse t [] = refl
any-reverse t (x ∷ xs) =
    ap (list_any t) (reverse-append (x ∷ []) xs)
    ∙ list_any-append t (reverse xs) (x ∷ [])
    ∙ or-last (list_any t (reverse xs)) (t x)
    ∙ ap (λ b. t x || b) (any-reverse t xs)

-- whether one of these joins the same conversation, looked for from behind
pub joins_back : (one : Use) (joins : List Use)
    → list_any (λ (other : Use). joins_like (held one) (held other)) (reverse joins) ≡ list_any (joins_like (held one)) (all_held joins)
joins_back one joins =
    any-reverse (λ (other : Use). joins_like (held one) (held other)) joins
    ∙ sym (any-map (joins_like (held one)) (λ (other : Use). joins_like (held one) (held other)) held (λ other. refl) joins)
