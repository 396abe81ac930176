-- Counting: how many elements of a list pass a test. Assumes nothing.
use mathlib.Core.Path.{◌≡◌, refl, sym, ap, ◌∙◌}
use mathlib.Core.Logic.{◌≢◌}
use mathlib.Core.Bool.{Bool, true, false, ◌&&◌, true≢false}
use mathlib.Core.List.{List, [], ◌∷◌, ◌++◌}
use Prim.Native.Nat.{ℕ, zero, suc, ◌+◌, ◌≤◌, ◌<◌}
use native.Mathlib.Nat.{not-suc-le-zero, le_of_suc-le-suc}
use native.Mathlib.Omega.{arith}
use lib.ListN.{length, get_or, replicate}
use lib.Dec.{ltb}
use borrow.Author.Tests.{ltb-true, ltb-false}
use Rattle.lists.specs.Scan.{filter, without, least, count_to}
use Rattle.lists.proofs.Cases.{by_bool, by_eq}

abbrev pub ind : Bool → ℕ
ind true = 1
ind false = 0

abbrev pub count : {A : Type 0} → (A → Bool) → List A → ℕ
count p [] = 0
count p (x ∷ xs) = ind (p x) + count p xs

pub count_append : {A : Type 0} (p : A → Bool) (xs ys : List A) → count p (xs ++ ys) ≡ count p xs + count p ys
count_append p [] ys = omega arith
count_append p (x ∷ xs) ys = omega (arith, count_append p xs ys)

pub count_delete : {A : Type 0} (p : A → Bool) (xs : List A) (i : ℕ) (d : A) → i < length xs
    → ind (p (get_or xs i d)) + count p (without i xs) ≡ count p xs
unfolding without
count_delete p [] i d h = absurd (not-suc-le-zero h)
count_delete p (x ∷ xs) zero d h = refl
count_delete p (x ∷ xs) (suc i) d h = omega (arith, count_delete p xs i d (le_of_suc-le-suc h))

-- ---- every element

abbrev pub Every : {A : Type 0} → (A → Type 0) → List A → Type 0
Every P [] = Unit {0}
Every P (x ∷ xs) = P x × Every P xs

pub every_map : {A : Type 0} (P Q : A → Type 0) (xs : List A) → ((x : A) → P x → Q x) → Every P xs → Every Q xs
every_map P Q [] f h = tt
every_map P Q (x ∷ xs) f h = (f x h.0, every_map P Q xs f h.1)

pub every_both : {A : Type 0} (P : A → Type 0) (xs ys : List A) → Every P xs → Every P ys → Every P (xs ++ ys)
every_both P [] ys h k = k
every_both P (x ∷ xs) ys h k = (h.0, every_both P xs ys h.1 k)

pub every_append : {A : Type 0} (P : A → Type 0) (xs : List A) (y : A) → Every P xs → P y → Every P (xs ++ y ∷ [])
every_append P xs y h k = every_both P xs (y ∷ []) h (k, tt)

pub every_delete : {A : Type 0} (P : A → Type 0) (xs : List A) (i : ℕ) → Every P xs → Every P (without i xs)
unfolding without
every_delete P [] zero h = tt
every_delete P [] (suc i) h = tt
every_delete P (x ∷ xs) zero h = h.1
every_delete P (x ∷ xs) (suc i) h = (h.0, every_delete P xs i h.1)

pub every_at : {A : Type 0} (P : A → Type 0) (xs : List A) (i : ℕ) (d : A) → i < length xs → Every P xs → P (get_or xs i d)
every_at P [] i d k h = absurd (not-suc-le-zero k)
every_at P (x ∷ xs) zero d k h = h.0
every_at P (x ∷ xs) (suc i) d k h = every_at P xs i d (le_of_suc-le-suc k) h.1

-- what stays in the list passes the test too
pub every_filter : {A : Type 0} (P : A → Type 0) (q : A → Bool) (xs : List A) → Every P xs → Every (λ x. P x × (q x ≡ true)) (filter q xs)
unfolding filter
every_filter P q [] h = tt
every_filter P q (x ∷ xs) h =
    by_bool (q x) (λ e. rw (e, filter) ((h.0, e), every_filter P q xs h.1)) (λ e. rw (e, filter) (every_filter P q xs h.1))

-- ---- what is dropped is not counted

pub count_filter : {A : Type 0} (p q : A → Bool) (xs : List A) → Every (λ x. p x ≡ true → q x ≡ true) xs → count p (filter q xs) ≡ count p xs
unfolding filter
count_filter p q [] h = refl
count_filter p q (x ∷ xs) h =
    by_bool (q x)
    (λ e. rw (e, filter) (omega (arith, count_filter p q xs h.1)))
    (λ e. by_bool (p x)
    (λ d. let z : ◌≡◌ {A = Bool} true false = sym (h.0 d) ∙ e in absurd (true≢false z))
    (λ d. rw (e, filter) (rw d (omega (arith, count_filter p q xs h.1)))))

pub count_filter_le : {A : Type 0} (p q : A → Bool) (xs : List A) → count p (filter q xs) ≤ count p xs
unfolding filter
count_filter_le p q [] = omega arith
count_filter_le p q (x ∷ xs) =
    by_bool (q x) (λ e. rw (e, filter) (omega (arith, count_filter_le p q xs))) (λ e. rw (e, filter) (omega (arith, count_filter_le p q xs)))

-- ---- one test against another

pub and_le : (c d : Bool) → ind (c && d) ≤ ind d
and_le true d = omega arith
and_le false d = omega arith

pub count_le : {A : Type 0} (p q : A → Bool) (xs : List A) → ((x : A) → ind (p x) ≤ ind (q x)) → count p xs ≤ count q xs
count_le p q [] h = omega arith
count_le p q (x ∷ xs) h = omega (arith, h x, count_le p q xs h)

-- none is counted: the test fails at each
pub count_none : {A : Type 0} (p : A → Bool) (xs : List A) → count p xs ≡ 0 → Every (λ x. p x ≡ false) xs
count_none p [] h = tt
count_none p (x ∷ xs) h =
    by_bool (p x)
    (λ e. absurd (omega (arith, ap ind e)))
    (λ e. (e, count_none p xs (omega arith)))

pub every_zip : {A : Type 0} (P Q : A → Type 0) (xs : List A) → Every P xs → Every Q xs → Every (λ x. P x × Q x) xs
every_zip P Q [] a b = tt
every_zip P Q (x ∷ xs) a b = ((a.0, b.0), every_zip P Q xs a.1 b.1)

pub count_zero : {A : Type 0} (p : A → Bool) (xs : List A) → Every (λ x. p x ≡ false) xs → count p xs ≡ 0
count_zero p [] h = refl
count_zero p (x ∷ xs) h = omega (arith, ap ind h.0, count_zero p xs h.1)

-- ---- a list by its indices

pub every_index : {A : Type 0} (P : A → Type 0) (d : A) (l : List A) → ((i : ℕ) → i < length l → P (get_or l i d)) → Every P l
every_index P d [] h = tt
every_index P d (x ∷ l) h = (h 0 (omega arith), every_index P d l (λ i k. h (suc i) (omega arith)))

-- all of its elements are d
pub same_all : {A : Type 0} (d : A) (l : List A) → ((i : ℕ) → i < length l → get_or l i d ≡ d) → l ≡ replicate (length l) d
same_all {A} d [] h = refl
same_all {A} d (x ∷ l) h = rw (← same_all d l (λ i k. h (suc i) (omega arith))) (ap (λ (y : A). y ∷ l) (h 0 (omega arith)))

-- at any index, also past the end
pub get_d_same : {A : Type 0} (n i : ℕ) (d : A) → get_or (replicate n d) i d ≡ d
get_d_same zero i d = refl
get_d_same (suc n) zero d = refl
get_d_same (suc n) (suc i) d = get_d_same n i d

-- ---- counting the indices below n

pub count_to_up : (p q : ℕ → Bool) (n : ℕ) → ((i : ℕ) → i < n → p i ≡ true → q i ≡ true) → count_to p n ≤ count_to q n
unfolding count_to
count_to_up p q zero h = omega arith
count_to_up p q (suc n) h =
    let i = count_to_up p q n (λ i k. h i (omega arith)) in
    by_bool (p n)
    (λ e. let f = h n (omega arith) e in rw (e, f) (omega arith))
    (λ e. by_bool (q n) (λ f. rw (e, f) (omega arith)) (λ f. rw (e, f) i))

pub count_to_same : (p q : ℕ → Bool) (n : ℕ) → ((i : ℕ) → i < n → p i ≡ q i) → count_to p n ≡ count_to q n
unfolding count_to
count_to_same p q zero h = refl
count_to_same p q (suc n) h = rw (h n (omega arith), count_to_same p q n (λ i k. h i (omega arith)))

-- p holds of no index
pub count_to_zero : (p : ℕ → Bool) (n : ℕ) → ((i : ℕ) → i < n → p i ≡ false) → count_to p n ≡ 0
unfolding count_to
count_to_zero p zero h = refl
count_to_zero p (suc n) h = rw (h n (omega arith)) (count_to_zero p n (λ i k. h i (omega arith)))

-- q holds of one index more
pub count_to_one : (p q : ℕ → Bool) (n b : ℕ) → b < n → p b ≡ false → q b ≡ true → ((i : ℕ) → i < n → i ≢ b → p i ≡ q i)
    → count_to q n ≡ suc (count_to p n)
unfolding count_to
count_to_one p q zero b l e f h = absurd (not-suc-le-zero l)
count_to_one p q (suc n) b l e f h =
    by_eq n b
    (λ d.
    let e2 : p n ≡ false = rw d e in
    let f2 : q n ≡ true = rw d f in
    rw (e2, f2) (ap suc (sym (count_to_same p q n (λ i k. h i (omega arith) (omega arith))))))
    (λ d.
    let r = count_to_one p q n b (omega arith) e f (λ i k. h i (omega arith)) in
    rw (h n (omega arith) d) (by_bool (q n) (λ g. rw g (ap suc r)) (λ g. rw g r)))

-- one index that p holds of
pub count_to_some : (p : ℕ → Bool) (n b : ℕ) → b < n → p b ≡ true → 1 ≤ count_to p n
unfolding count_to
count_to_some p zero b l e = absurd (not-suc-le-zero l)
count_to_some p (suc n) b l e =
    by_eq n b
    (λ d. let f : p n ≡ true = rw d e in rw f (omega arith))
    (λ d. let r = count_to_some p n b (omega arith) e in by_bool (p n) (λ g. rw g (omega arith)) (λ g. rw g r))

-- q is p but for one index
pub count_to_change : (p q : ℕ → Bool) (n b : ℕ) → b < n → ((i : ℕ) → i < n → i ≢ b → p i ≡ q i)
    → count_to q n + ind (p b) ≡ count_to p n + ind (q b)
count_to_change p q n b l h =
    let same : p b ≡ q b → count_to q n ≡ count_to p n = λ e. sym (count_to_same p q n (λ i k. by_eq i b (λ d. rw d e) (h i k))) in
    by_bool (p b)
    (λ e. by_bool (q b)
    (λ f. rw (e, f, same (e ∙ sym f)))
    (λ f. rw (e, f) (omega (arith, count_to_one q p n b l f e (λ i k d. sym (h i k d))))))
    (λ e. by_bool (q b)
    (λ f. rw (e, f) (omega (arith, count_to_one p q n b l e f h)))
    (λ f. rw (e, f, same (e ∙ sym f))))

-- ---- the least index that passes a test passes it

pub least_at : (p : ℕ → Bool) (n : ℕ) → least p n < n → p (least p n) ≡ true
unfolding least
least_at p zero h = absurd (not-suc-le-zero h)
least_at p (suc n) h =
    by_bool (ltb (least p n) n)
    (λ e. rw e (least_at p n (ltb-true _ _ e)))
    (λ e. by_bool (p n)
    (λ d. rw (e, d) d)
    (λ d. let z : suc n < suc n = rw (e, d) at h in absurd (omega arith)))

-- no index before it does
pub least_before : (p : ℕ → Bool) (n i : ℕ) → i < least p n → p i ≡ false
unfolding least
least_before p zero i h = absurd (not-suc-le-zero h)
least_before p (suc n) i h =
    by_bool (ltb (least p n) n)
    (λ e. let k : i < least p n = rw e at h in least_before p n i k)
    (λ e.
    let above : n ≤ least p n = ltb-false (least p n) n e in
    by_bool (p n)
    (λ d. let k : i < n = rw (e, d) at h in least_before p n i (omega arith))
    (λ d.
    let k : i < suc n = rw (e, d) at h in
    by_eq i n (λ q. rw q d) (λ q. least_before p n i (omega arith))))
