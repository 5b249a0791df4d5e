-- What writes and reads do to known bytes, and an answer whose text was put out, or a prefix of it.
use Rattle.fbl_input.proofs.Common.{◌≡◌, ℕ, ◌+◌, ◌-◌, ◌<◌, List, ◌++◌, Option, Some, None, Result, Ok, Err, IfErr, OnOk, OnErr, refl, sym, ap, ◌∙◌, subst, arith, append_assoc, take, drop, length}
use Rattle.fbl_input.proofs.Common.{length-drop, take-add, take_all, IsErrAnd, Appends, Consumes, Keeps, OutputFault, PutsOut}
use Rattle.fbl_input.specs.declared.output.OutputFault.TheVariants as outputs

-- ---- known bytes

appends_more : (a b c : Option (List ℕ)) (xs ys : List ℕ) → Appends a b xs → Appends b c ys → Appends a c (xs ++ ys)
appends_more None b c xs ys p q = tt
appends_more (Some x) None c xs ys p q = absurd p
appends_more (Some x) (Some y) None xs ys p q = absurd q
appends_more (Some x) (Some y) (Some z) xs ys p q = q ∙ ap (λ w. w ++ ys) p ∙ append_assoc x xs ys

pub consumes_more : (a b c : Option (List ℕ)) (xs ys : List ℕ) → Consumes a b xs → Consumes b c ys → Consumes a c (xs ++ ys)
consumes_more None b c xs ys p q = tt
consumes_more (Some x) None c xs ys p q = absurd p
consumes_more (Some x) (Some y) None xs ys p q = absurd q
consumes_more (Some x) (Some y) (Some z) xs ys p q = p ∙ ap (λ w. xs ++ w) q ∙ sym (append_assoc xs ys z)

-- the part of a slice from a place to its end
tail_of : (done : ℕ) (bytes : List ℕ) → take (length bytes - done) (drop done bytes) ≡ drop done bytes
tail_of done bytes = take_all _ _ (omega (arith, length-drop {A = ℕ}))

-- one more write
pub written_more : (a b c : Option (List ℕ)) (done n : ℕ) (bytes : List ℕ) → Appends a b (take done bytes)
    → Appends b c (take n (take (length bytes - done) (drop done bytes))) → Appends a c (take (done + n) bytes)
written_more a b c done n bytes p q =
    let P : List ℕ → Type 0 = λ w. Appends a c w in
    let Q : List ℕ → Type 0 = λ w. Appends b c (take n w) in
    subst P (sym (take-add done n bytes)) (appends_more a b c _ _ p (subst Q (tail_of done bytes) q))

-- nothing was read or written
pub keeps_itself : (known : Option (List ℕ)) → Keeps known known
keeps_itself None = tt
keeps_itself (Some xs) = refl

-- ---- answers

-- nothing is put out where there is no memory
pub puts_none : {A : Type 0} (IsRight : A → List ℕ → Type 0) (known : Option (List ℕ)) (r : Result A OutputFault) → IsErrAnd r (λ e. e ≡ outputs.Memory) → PutsOut IsRight known known r
puts_none IsRight known (Ok x) same = absurd same
puts_none IsRight known (Err e) same = rw same (keeps_itself known)

-- a prefix, and the fault is passed on
pub puts_front : {A : Type 0} (IsRight : A → List ℕ → Type 0) (x : A) (text : List ℕ) → IsRight x text → (before after : Option (List ℕ)) (f : OutputFault) (r : Result A OutputFault)
    → IsErrAnd r (λ e. e ≡ f) → (n : ℕ) × (n < length text) × Appends before after (take n text) → f ≡ outputs.Write → PutsOut IsRight before after r
puts_front IsRight x text is before after f (Ok y) same front fault = absurd same
puts_front IsRight x text is before after f (Err e) same front fault = rw (same, fault) (x, text, front.0, is, front.1, front.2)

-- a text that is all of the answer
pub puts_text : (IsText : Unit {0} → List ℕ → Type 0) (text : List ℕ) → IsText tt text → (before after : Option (List ℕ)) (r : Result (Unit {0}) OutputFault)
    → OnOk r (Appends before after text) → OnErr r ((n : ℕ) × (n < length text) × Appends before after (take n text)) → IfErr r (λ e. e ≡ outputs.Write)
    → PutsOut IsText before after r
puts_text IsText text is before after (Ok x) whole front fault = (text, is, whole)
puts_text IsText text is before after (Err f) whole front fault = puts_front IsText tt text is before after f (Err f) refl front fault

-- an answer that is right is right in another way
pub puts_right : {A : Type 0} (IsRight IsSeen : A → List ℕ → Type 0) → ((x : A) (text : List ℕ) → IsRight x text → IsSeen x text) → (before after : Option (List ℕ))
    (r : Result A OutputFault) → PutsOut IsRight before after r → PutsOut IsSeen before after r
puts_right IsRight IsSeen right before after (Ok x) (text, is, appends) = (text, right x text is, appends)
puts_right IsRight IsSeen right before after (Err outputs.Write) (x, text, part, is, short, appends) = (x, text, part, right x text is, short, appends)
puts_right IsRight IsSeen right before after (Err outputs.Memory) keeps = keeps

-- an answer that was cut off, seen as another that is right where it is
pub puts_as : {A B : Type 0} (IsRight : A → List ℕ → Type 0) (IsSeen : B → List ℕ → Type 0) (f : A → B) → ((x : A) (text : List ℕ) → IsRight x text → IsSeen (f x) text)
    → (before after : Option (List ℕ)) (e : OutputFault) → PutsOut IsRight before after (Err e) → PutsOut IsSeen before after (Err e)
puts_as IsRight IsSeen f right before after outputs.Write (x, text, part, is, short, appends) = (f x, text, part, right x text is, short, appends)
puts_as IsRight IsSeen f right before after outputs.Memory keeps = keeps
