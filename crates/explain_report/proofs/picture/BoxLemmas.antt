-- What is drawn in turn makes up a picture.
use Rattle.std.proofs.Common.{◌≡◌, ℕ, ◌+◌, Bool, true, false, true≢false, subst, List, [], ◌∷◌, ◌++◌, map, take, append_assoc, append-nil, refl, ap, sym, ◌∙◌}
use Rattle.std.proofs.lemmas.List.{map-append}
use Rattle.explain_report.specs.picture.Boxes.{Drawn, Each, If, IsCut, IsLine, IsWhole, Many, Then}
use Rattle.explain_report.specs.declared.picture.class.Class.{Class}
use Rattle.explain_report.proofs.picture.PieceLemmas.{alone}

-- nothing is drawn
pub nothing : (P : List ℕ → Type 0) (old : List ℕ) → P [] → Drawn P old old
nothing P old p = ([], simp append-nil, p)

-- what is drawn is of a weaker kind too
pub weaker : (P Q : List ℕ → Type 0) (old new : List ℕ) → ((text : List ℕ) → P text → Q text) → Drawn P old new → Drawn Q old new
weaker P Q old new f (text, e, p) = (text, e, f text p)

module _ (P Q : List ℕ → Type 0) (old mid new : List ℕ) where
  joined : (x y : List ℕ) → mid ≡ old ++ x → new ≡ mid ++ y → new ≡ old ++ (x ++ y)
  joined x y e f =
      let whole : new ≡ (old ++ x ++ y) = cc in
      whole ∙ simp append_assoc

  -- two parts, one after the other
  pub two : Drawn P old mid → Drawn Q mid new → Drawn (Then P Q) old new
  two (x, e, p) (y, f, q) = (x ++ y, joined x y e f, (x, y, refl, p, q))

-- a part that is there only if a test holds
pub if_true : (b : Bool) (P : List ℕ → Type 0) (old new : List ℕ) → b ≡ true → Drawn P old new → Drawn (If b P) old new
if_true true P old new e d = d
if_true false P old new e d = absurd (true≢false (sym e))

pub if_false : (b : Bool) (P : List ℕ → Type 0) (old : List ℕ) → b ≡ false → Drawn (If b P) old old
if_false false P old e = nothing (λ (text : List ℕ). text ≡ []) old refl
if_false true P old e = absurd (true≢false e)

-- no part so far
pub each-none : {A : Type 0} (P : A → List ℕ → Type 0) (old : List ℕ) → Drawn (Each P []) old old
each-none P old = nothing (Each P []) old Each.none

-- one more part
pub each-more :
    {A : Type 0} (P : A → List ℕ → Type 0) (xs : List A) (a : A) (old mid new : List ℕ) → Drawn (Each P xs) old mid → Drawn (P a) mid new
    → Drawn (Each P (xs ++ a ∷ [])) old new
each-more P xs a old mid new (x, e, p) (y, f, q) = (x ++ y, joined (Each P xs) (P a) old mid new x y e f, Each.more xs a x y p q)

-- the same of a list's parts up to an index
pub each-next :
    {A : Type 0} (P : A → List ℕ → Type 0) (xs : List A) (k : ℕ) (a : A) (old mid new : List ℕ) → take (k + 1) xs ≡ take k xs ++ a ∷ []
    → Drawn (Each P (take k xs)) old mid → Drawn (P a) mid new → Drawn (Each P (take (k + 1) xs)) old new
each-next P xs k a old mid new e d f = rw e (each-more P (take k xs) a old mid new d f)

-- a line whose words were appended to nothing
pub line_of :
    (class : Class) (words empty text copy old new : List ℕ) → empty ≡ [] → copy ≡ text → text ≡ empty ++ words → Drawn (IsLine class copy) old new
    → Drawn (IsLine class words) old new
line_of class words empty text copy old new none copied e d =
    subst (λ (ws : List ℕ). Drawn (IsLine class ws) old new) (alone empty text words copy none copied e) d

pub whole_of :
    (class : Class) (words empty text copy old new : List ℕ) → empty ≡ [] → copy ≡ text → text ≡ empty ++ words → Drawn (IsWhole class copy) old new
    → Drawn (IsWhole class words) old new
whole_of class words empty text copy old new none copied e d =
    subst (λ (ws : List ℕ). Drawn (IsWhole class ws) old new) (alone empty text words copy none copied e) d

-- a line whose words were cut
pub cut_line :
    (class : Class) (words empty text copy old new : List ℕ) → empty ≡ [] → copy ≡ text
    → ((shown : List ℕ) × (text ≡ empty ++ shown) × IsCut words shown) → Drawn (IsWhole class copy) old new → Drawn (IsLine class words) old new
cut_line class words empty text copy old new none copied (shown, e, cut) (x, f, is) =
    (x, f, (shown, cut, subst (λ (ws : List ℕ). IsWhole class ws x) (alone empty text shown copy none copied e) is))

-- a shape that was made alone, and then copied
pub shape_of :
    (P : List ℕ → Type 0) (empty text words copy inside old new : List ℕ) → inside ≡ old → empty ≡ [] → copy ≡ text → text ≡ empty ++ words
    → new ≡ inside ++ copy → P words → Drawn P old new
shape_of P empty text words copy inside old new same none copied e f p =
    (words, f ∙ ap (λ (xs : List ℕ). xs ++ copy) same ∙ ap (λ (xs : List ℕ). old ++ xs) (alone empty text words copy none copied e), p)

-- no such part so far
pub many-none : (P : List ℕ → Type 0) (old : List ℕ) → Drawn (Many P) old old
many-none P old = nothing (Many P) old Many.none

-- one such part
pub many-one : (P : List ℕ → Type 0) (old new : List ℕ) → Drawn P old new → Drawn (Many P) old new
many-one P old new (part, e, p) = (part, e, Many.more [] part Many.none p)

joined_many : (P : List ℕ → Type 0) (x y : List ℕ) → Many P x → Many P y → Many P (x ++ y)
joined_many P x _ first Many.none = subst (Many P) (sym (append-nil x)) first
joined_many P x _ first (Many.more text part rest p) =
    subst (Many P) (append_assoc x text part) (Many.more (x ++ text) part (joined_many P x text first rest) p)

-- such parts after others
pub many-more : (P : List ℕ → Type 0) (old mid new : List ℕ) → Drawn (Many P) old mid → Drawn (Many P) mid new → Drawn (Many P) old new
many-more P old mid new (x, e, first) (y, f, rest) = (x ++ y, joined (Many P) (Many P) old mid new x y e f, joined_many P x y first rest)

-- parts for what stands in a list, as parts for the list
pub each-map :
    {A B : Type 0} (f : A → B) (P : B → List ℕ → Type 0) (xs : List A) (text : List ℕ) → Each (λ (a : A). P (f a)) xs text → Each P (map f xs) text
each-map f P _ _ Each.none = Each.none
each-map {B = B} f P _ _ (Each.more xs a text part rest p) =
    subst (λ (ys : List B). Each P ys (text ++ part)) (sym (map-append f xs (a ∷ []))) (Each.more (map f xs) (f a) text part (each-map f P xs text rest) p)
