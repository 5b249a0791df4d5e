-- Each step of the claims keeps their rule, and the rule says what a step does to the words.
use Rattle.fbl_turns.proofs.Common.{◌≡◌, ◌<◌, ◌↔◌, ℕ, suc, ◌⊎◌, inl, inr, List, [], ◌∷◌, ◌++◌, Some, None, cond, sym, refl, ap, ◌∙◌, arith, zero, Option, eqb, get_or, set, length-set, eq-eqb}
use Rattle.fbl_turns.proofs.Common.{ne_eqb, get_or-set_same, get_or-set_other, set-get_or, ext_get_or, dite, some, some-ne-none, ℕ_discrete, get_elem?, either, State, keeps, Allows, Splits, Joins}
use Rattle.fbl_turns.proofs.Common.{at_set, set_else, set_again, at_longer, at_snoc, ViewHolds, IsFree, IsClaimed, IsExclusive, HasOneHolder, IsSaidBy, WordsFollowViews}

abbrev St : Type 0
St = State (Unit {0}) (Option ℕ)

abbrev Fits : ℕ → List (Option ℕ) → ℕ → Type 0
Fits word views member = IsFree word views member ⊎ IsClaimed word views member

-- a view that holds this member or nobody
abbrev Only : ℕ → Option ℕ → Type 0
Only i v = (member : ℕ) → v ≡ Some member → member ≡ i

set_hit : {A : Type 0} (l : List A) (i : ℕ) (a b : A) → get_elem? l i ≡ some b → get_elem? (set l i a) i ≡ some a
set_hit [] i a b e = absurd (some-ne-none b (sym e))
set_hit (x ∷ xs) zero a b e = refl
set_hit (x ∷ xs) (suc i) a b e = set_hit xs i a b e

-- ---- what the rule says of a word

-- what holds of a member rests on who holds it alone
same_holders : (word : ℕ) (views views' : List (Option ℕ)) (member : ℕ) → ((pass : ℕ) → ViewHolds views pass member ↔ ViewHolds views' pass member)
    → Fits word views member → Fits word views' member
same_holders word views views' member same (inl free) = inl (free.0, λ pass held. free.1 pass ((same pass).1 held))
same_holders word views views' member same (inr claimed) =
    inr (claimed.0, (claimed.1.0, (same claimed.1.0).0 claimed.1.1, λ other held. claimed.1.2 other ((same other).1 held)))

one_word : (a b : ℕ) (views : List (Option ℕ)) (member : ℕ) → Fits a views member → Fits b views member → a ≡ b
one_word a b views member x y = grind arith

held_word : (n : ℕ) (s : St) (member pass : ℕ) → IsExclusive n s → ViewHolds s.views pass member → get_or s.words member 0 ≡ 1
held_word n s member pass rule held = grind (arith, rule.free_or_claimed member (rule.of_the_group pass member held))

pub one_holder : HasOneHolder
one_holder n s member one other rule held also = grind (arith, rule.free_or_claimed member (rule.of_the_group one member held))

-- the views say what the words are
same_views : (n : ℕ) (old new : St) → IsExclusive n old → IsExclusive n new → new.views ≡ old.views → new.words ≡ old.words
same_views n old new rule rule' is =
    ext_get_or 0 new.words old.words (rule'.a_word_each ∙ sym rule.a_word_each)
    (λ i low.
    let below : i < n = let l = rule'.a_word_each in omega arith in
    one_word _ _ old.views i (rw is at (rule'.free_or_claimed i below)) (rule.free_or_claimed i below))

-- ---- splits and joins

-- a new pass, which holds nobody
longer : (n : ℕ) (s : St) → IsExclusive n s → IsExclusive n (record s { views = s.views ++ None ∷ [] })
longer n s rule =
    let old : (pass member : ℕ) → ViewHolds (s.views ++ None ∷ []) pass member → ViewHolds s.views pass member =
    λ pass member held. grind (arith, at_snoc s.views None (Some member) pass held) in
    record {
      a_word_each = rule.a_word_each;
      of_the_group = λ pass member held. rule.of_the_group pass member (old pass member held);
      free_or_claimed = λ member below. same_holders (get_or s.words member 0) s.views (s.views ++ None ∷ []) member
          (λ pass. (at_longer s.views (None ∷ []) pass (Some member), old pass member)) (rule.free_or_claimed member below);
    }

pub splits : (n id : ℕ) (v : Option ℕ) → Splits (IsExclusive n) id v v None
splits n id v s rule at = rw (set_again s.views id v at) (longer n s rule)

pub joins : (n id other : ℕ) → Joins (IsExclusive n) id None other None None None
joins n id other s rule at apart at_other =
    let one : set s.views id None ≡ s.views = set_again s.views id None at in
    let both : set (set s.views id None) other None ≡ s.views = set_again (set s.views id None) other None at_other ∙ one in
    rw both rule

-- two passes never hold one member: they may be joined to anything
pub joins_none : (n id other member : ℕ) (both spent : Option ℕ) → Joins (IsExclusive n) id (Some member) other (Some member) both spent
joins_none n id other member both spent s rule at apart at_other =
    absurd (apart (one_holder n s member other id rule (sym (set_else s.views id other both apart) ∙ at_other) at))

-- ---- steps

-- one word and one view change, and agree on the word's member
placed : (n i id word : ℕ) (v w : Option ℕ) (s : St) → IsExclusive n s → i < n → get_elem? s.views id ≡ some v → Only i v → Only i w
    → Fits word (set s.views id w) i → IsExclusive n (record s { words = set s.words i word; views = set s.views id w })
placed n i id word v w s rule below at only_v only_w here = record {
  a_word_each = length-set s.words i word ∙ rule.a_word_each;
  of_the_group = λ pass member held. grind (arith, at_set s.views id pass w (Some member) held, only_w member, rule.of_the_group pass member);
  free_or_claimed = λ member low. dite (ℕ_discrete member i)
      (λ e. rw (e, get_or-set_same s.words i word 0 (let l = rule.a_word_each in omega arith)) here)
      (λ ne.
      rw (get_or-set_other s.words i member word 0 ne)
      (same_holders (get_or s.words member 0) s.views (set s.views id w) member (λ pass. (
        λ held. grind (arith, set_else s.views id pass w, only_v member),
        λ held. grind (arith, at_set s.views id pass w (Some member) held, only_w member),
      )) (rule.free_or_claimed member low)));
}

module _ (n i id : ℕ) (s : St) (rule : IsExclusive n s) (below : i < n) where
  -- the first pass to find 0 holds the member, and no other one does
  claimed : get_elem? s.views id ≡ some None → get_or s.words i 0 ≡ 0 → IsExclusive n (record s { words = set s.words i 1; views = set s.views id (Some i) })
  claimed at zero_word =
      placed n i id 1 None (Some i) s rule below at (λ m e. cc) (λ m e. cc)
      (inr (
        refl,
        (
          id,
          set_hit s.views id (Some i) None at,
          λ other held. grind (arith, at_set s.views id other (Some i) (Some i) held, held_word n s i other rule),
        ),
      ))

  -- where the pass that holds the member lets it go, no pass holds it
  released : get_elem? s.views id ≡ some (Some i) → IsExclusive n (record s { words = set s.words i 0; views = set s.views id None })
  released at =
      placed n i id 0 (Some i) None s rule below at (λ m e. cc) (λ m e. cc)
      (inl (refl, λ pass held. grind (arith, at_set s.views id pass None (Some i) held, one_holder n s i pass id rule)))

pub takes : (n slots id i : ℕ) → i < n → Allows (IsExclusive n) slots id (None, []) i (λ x. either (eqb x 0) 1 x) (λ x w. w ≡ (cond (eqb x 0) (Some i) None, []))
takes n slots id i below s rule _ at _ =
    let x : ℕ = get_or s.words i 0 in (
      cond (eqb x 0) (Some i) None,
      keeps,
      tt,
      dite (ℕ_discrete x 0)
          (λ hit. rw (eq-eqb x 0 hit) (claimed n i id s rule below at hit))
          (λ miss. rw (ne_eqb x 0 miss, set-get_or s.words i 0, set_again s.views id None at) rule),
      refl,
    )

pub gives_back : (n slots id i : ℕ) → i < n → Allows (IsExclusive n) slots id (Some i, []) i (λ x. 0) (λ x w. w ≡ (None, []))
gives_back n slots id i below s rule _ at _ = (None, keeps, tt, released n i id s rule below at, refl)

-- ---- the words are what the views say

says : (n : ℕ) (old new : St) (pass : ℕ) (before after : Option ℕ) → IsExclusive n old → IsExclusive n new → get_elem? old.views pass ≡ some before
    → new.views ≡ set old.views pass after → IsSaidBy before after old.words new.words
says n old new pass None None rule rule' at is = same_views n old new rule rule' (is ∙ set_again old.views pass None at)
says n old new pass None (Some p) rule rule' at is =
    let held : ViewHolds new.views pass p = rw is (set_hit old.views pass (Some p) None at) in
    let low : p < n = rule'.of_the_group pass p held in
    let other : (k : ℕ) → ViewHolds old.views k p → k ≡ pass = λ k was. dite (ℕ_discrete k pass)
    (λ e. e) (λ ne. one_holder n new p k pass rule' (rw is (set_else old.views pass k (Some p) ne ∙ was)) held) in
    let free : get_or old.words p 0 ≡ 0 = grind (arith, rule.free_or_claimed p low, other) in
    (free, same_views n _ new (claimed n p pass old rule low at free) rule' is)
says n old new pass (Some p) None rule rule' at is =
    (held_word n old p pass rule at, same_views n _ new (released n p pass old rule (rule.of_the_group pass p at) at) rule' is)
says n old new pass (Some p) (Some q) rule rule' at is = λ e. same_views n old new rule rule' (is ∙ set_again old.views pass (Some q) (at ∙ ap (λ m. some (Some m)) e))

pub words_follow_views : WordsFollowViews
words_follow_views n old new rule rule' =
    ((λ pass before after. says n old new pass before after rule rule'), same_views n (record old { views = old.views ++ None ∷ [] }) new (longer n old rule) rule')
