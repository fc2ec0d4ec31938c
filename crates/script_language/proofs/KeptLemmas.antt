-- Calls that are kept, while more names and more calls are put behind those that they are kept by.
use Rattle.std.proofs.Common.{◌≡◌, ◌≢◌, ℕ, ◌+◌, ◌≤◌, List, [], ◌∷◌, ◌++◌, map, length, take, drop, get_or, refl, sym, ap, ◌∙◌, arith, subst, length-append, length-drop, append-nil}
use Rattle.std.specs.List.{All}
use Rattle.std.proofs.lemmas.List.{take-append-le, drop-append-le, map-append}
use Rattle.std.proofs.lemmas.List.Elements.{All-head, All-tail, All-weaker, All-push}
use Rattle.std.proofs.Math.ListN.{get_or-append}
use Rattle.inverse_log.specs.declared.call.Call.{Call}
use Rattle.inverse_log.specs.declared.call.Call.TheVariants.{Undo}
use Rattle.script_language.specs.Kept.{name_in, to_in, call_in, call_of, asked_of, IsWithin, HasNames, IsKept, Begins}
use Rattle.script_language.specs.Scripts.{Asked}
use Rattle.script_language.specs.declared.kept.Form.{Form}
use Rattle.script_language.specs.declared.kept.Form.TheVariants.{Fresh, Add, Back, Swap, Branch, Drop, Adopt, Undo as UndoForm, UndoAt, Show, List as ListForm, Races, Owned}
use Rattle.script_language.specs.declared.kept.Kept.{Kept}

-- a part of a list stays where more is put behind it
part-grown : {A : Type 0} (xs more : List A) (at len : ℕ) → at + len ≤ length xs → take len (drop at (xs ++ more)) ≡ take len (drop at xs)
part-grown xs more at len within =
    ap (take len) (drop-append-le at xs more (omega (arith, within)))
    ∙ take-append-le len (drop at xs) more (omega (arith, within, length-drop at xs))

module _ (names more : List ℕ) (owned extra : List Call) (k : Kept) where
  -- what is kept in this form stays, and so does the call
  abbrev Stays : Form → Type 0
  Stays form =
      IsWithin form (names ++ more) (owned ++ extra) k
      × HasNames form (name_in (names ++ more) k) (to_in (names ++ more) k)
      × (call_in form (name_in (names ++ more) k) (to_in (names ++ more) k) k.number (get_or (owned ++ extra) k.at Undo) ≡ call_in form (name_in names k) (to_in names k) k.number (get_or owned k.at Undo))

  abbrev Fits : Type 0
  Fits = k.at + k.name + k.to ≤ length names

  wider : Fits → k.at + k.name + k.to ≤ length (names ++ more)
  wider h = omega (arith, h, length-append names more)

  name : Fits → name_in (names ++ more) k ≡ name_in names k
  name h = part-grown names more k.at k.name (omega (arith, h))

  to : Fits → to_in (names ++ more) k ≡ to_in names k
  to h = part-grown names more (k.at + k.name) k.to h

  stays : (form : Form) → IsWithin form names owned k → HasNames form (name_in names k) (to_in names k) → Stays form
  stays Fresh w h = rw (name w) (wider w, h, refl)
  stays Add w h = rw (name w) (wider w, h, refl)
  stays Back w h = rw (name w) (wider w, h, refl)
  stays Swap w h = rw (name w) (wider w, h, refl)
  stays Branch w h = rw (name w, to w) (wider w, h, refl)
  stays Drop w h = rw (name w) (wider w, h, refl)
  stays Adopt w h = rw (name w) (wider w, h, refl)
  stays UndoForm w h = (wider w, tt, refl)
  stays UndoAt w h = (wider w, tt, refl)
  stays Show w h = rw (name w) (wider w, h, refl)
  stays ListForm w h = (wider w, tt, refl)
  stays Races w h = rw (name w) (wider w, h, refl)
  stays Owned w h = (omega (arith, w, length-append owned extra), tt, get_or-append owned extra Undo k.at w)

  kept-grown : IsKept names owned k → IsKept (names ++ more) (owned ++ extra) k
  kept-grown h =
      let s = stays k.form h.within h.named in record { within = s.0; named = s.1; client = h.client }

  asked-grown : IsKept names owned k → asked_of (names ++ more) (owned ++ extra) k ≡ asked_of names owned k
  asked-grown h =
      ap (λ (call : Call). record { line = k.line; client = k.client; call = call }) (stays k.form h.within h.named).2

-- all of them stay
pub are-grown : (names now : List ℕ) (owned owned_now : List Call) (kept : List Kept) → Begins names now → Begins owned owned_now → All (IsKept names owned) kept → All (IsKept now owned_now) kept
are-grown names now owned owned_now kept n o h =
    subst (λ ns. All (IsKept ns owned_now) kept) (sym n.1)
    (subst (λ os. All (IsKept (names ++ n.0) os) kept) (sym o.1)
    (All-weaker (IsKept names owned) (IsKept (names ++ n.0) (owned ++ o.0)) (λ k. kept-grown names n.0 owned o.0 k) kept h))

same-calls : (names more : List ℕ) (owned extra : List Call) (kept : List Kept) → All (IsKept names owned) kept → map (asked_of (names ++ more) (owned ++ extra)) kept ≡ map (asked_of names owned) kept
same-calls names more owned extra [] h = refl
same-calls names more owned extra (k ∷ kept) h =
    ap (λ a. a ∷ map (asked_of (names ++ more) (owned ++ extra)) kept) (asked-grown names more owned extra k (All-head (IsKept names owned) k kept h))
    ∙ ap (λ more_calls. asked_of names owned k ∷ more_calls) (same-calls names more owned extra kept (All-tail (IsKept names owned) k kept h))

-- and their calls
pub calls-grown : (names now : List ℕ) (owned owned_now : List Call) (kept : List Kept) → Begins names now → Begins owned owned_now → All (IsKept names owned) kept → map (asked_of now owned_now) kept ≡ map (asked_of names owned) kept
calls-grown names now owned owned_now kept n o h =
    ap (λ ns. map (asked_of ns owned_now) kept) n.1
    ∙ ap (λ os. map (asked_of (names ++ n.0) os) kept) o.1
    ∙ same-calls names n.0 owned o.0 kept h

-- one call more is kept
pub calls-pushed : (names now : List ℕ) (owned owned_now : List Call) (kept : List Kept) (k : Kept) (asked : Asked) → Begins names now → Begins owned owned_now → All (IsKept names owned) kept → asked_of now owned_now k ≡ asked → map (asked_of now owned_now) (kept ++ k ∷ []) ≡ map (asked_of names owned) kept ++ asked ∷ []
calls-pushed names now owned owned_now kept k asked n o h is =
    map-append (asked_of now owned_now) kept (k ∷ [])
    ∙ ap (λ front. front ++ asked_of now owned_now k ∷ []) (calls-grown names now owned owned_now kept n o h)
    ∙ ap (λ a. map (asked_of names owned) kept ++ a ∷ []) is

-- a call that owns no memory does not depend on one that does
pub same_own : (form : Form) (name to : List ℕ) (n : ℕ) (own other : Call) → form ≢ Owned → call_in form name to n own ≡ call_in form name to n other
same_own Fresh name to n own other plain = refl
same_own Add name to n own other plain = refl
same_own Back name to n own other plain = refl
same_own Swap name to n own other plain = refl
same_own Branch name to n own other plain = refl
same_own Drop name to n own other plain = refl
same_own Adopt name to n own other plain = refl
same_own UndoForm name to n own other plain = refl
same_own UndoAt name to n own other plain = refl
same_own Show name to n own other plain = refl
same_own ListForm name to n own other plain = refl
same_own Races name to n own other plain = refl
same_own Owned name to n own other plain = absurd (plain refl)
