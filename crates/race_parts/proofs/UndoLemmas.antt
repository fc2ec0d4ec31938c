-- Names that were added and are taken out again.
use Rattle.std.proofs.Common.{◌≡◌, Bool, true, false, cond, is_some, ℕ, List, [], ◌∷◌, ◌++◌, append-nil, length, map, Vec, arith, Some, None, refl, sym, ap, ◌∙◌, inl, inr}
use Rattle.std.specs.declared.alloc.Global.{Global}
use Rattle.std.specs.declared.cmp.Ordering.{Ordering}
use Rattle.std.specs.declared.cmp.Ordering.TheVariants.{Less, Equal, Greater}
use Rattle.std.specs.Ordering.{is_eq, match_ordering}
use Rattle.std.specs.BTreeMap.{BTreeMap, IsUnchanged, get, insert_entry, is_at}
use Rattle.std.specs.Map.{lookup}
use Rattle.std.proofs.lemmas.Bool.{cases_Bool, true≢false}
use Rattle.std.proofs.lemmas.List.{map-append}
use Rattle.race_parts.specs.Parts.{AddsOnly, IsNoted, IsUndone, bytes_cmp, has_name, name_cmp, names_in, without, without_all}
use Rattle.race_parts.specs.declared.parts.Part.{Part}
use Rattle.race_parts.proofs.PutLemmas.{at_itself}

abbrev Named : Type 0
Named = BTreeMap (Vec ℕ Global) Part

abbrev Entries : Type 0
Entries = List (Vec ℕ Global × Part)

-- whether an entry has the name
abbrev is_there : List ℕ → Entries → Bool
is_there name es = is_some (lookup (is_at (λ (k : Vec ℕ Global). bytes_cmp name k.items)) es)

there-here : (name : List ℕ) (e : Vec ℕ Global × Part) (es : Entries) → is_eq (bytes_cmp name e.0.items) ≡ true → is_there name (e ∷ es) ≡ true
there-here name e es here = ap (λ b. is_some (cond b (Some e.1) (lookup (is_at (λ (k : Vec ℕ Global). bytes_cmp name k.items)) es))) here

there-other : (name : List ℕ) (e : Vec ℕ Global × Part) (es : Entries) → is_eq (bytes_cmp name e.0.items) ≡ false → is_there name (e ∷ es) ≡ is_there name es
there-other name e es other = ap (λ b. is_some (cond b (Some e.1) (lookup (is_at (λ (k : Vec ℕ Global). bytes_cmp name k.items)) es))) other

-- a name that is not there
without-absent : (name : List ℕ) (es : Entries) → is_there name es ≡ false → without name es ≡ es
without-absent name [] none = refl
without-absent name (e ∷ es) none =
    elim (cases_Bool (is_eq (bytes_cmp name e.0.items))) [
      | inl here ↦ absurd (true≢false (sym (there-here name e es here) ∙ none))
      | inr other ↦
          ap (λ b. cond b es (e ∷ without name es)) other
          ∙ ap (λ (rest : Entries). e ∷ rest) (without-absent name es (sym (there-other name e es other) ∙ none))
    ]

-- a new name, taken out again
without-insert_entry : (k : Vec ℕ Global) (p : Part) (es : Entries) → is_there k.items es ≡ false → without k.items (insert_entry name_cmp es k p) ≡ es
without-insert_entry k p [] none = ap (λ b. cond b [] ((k, p) ∷ [])) (at_itself k.items)
without-insert_entry k p (e ∷ es) none = step (λ absent. without-insert_entry k p es absent) (name_cmp k e.0) refl
  where
    at_order : Ordering → Entries
    at_order r = without k.items (match_ordering r ((k, p) ∷ e ∷ es) ((e.0, p) ∷ es) (e ∷ insert_entry name_cmp es k p))

    step : (is_there k.items es ≡ false → without k.items (insert_entry name_cmp es k p) ≡ es) → (r : Ordering) → name_cmp k e.0 ≡ r → at_order (name_cmp k e.0) ≡ e ∷ es
    step rest Less is = ap at_order is ∙ ap (λ b. cond b (e ∷ es) ((k, p) ∷ without k.items (e ∷ es))) (at_itself k.items)
    step rest Equal is = absurd (true≢false (sym (there-here k.items e es (ap is_eq is)) ∙ none))
    step rest Greater is =
        let other : is_eq (bytes_cmp k.items e.0.items) ≡ false = ap is_eq is in
        ap at_order is
        ∙ ap (λ b. cond b (insert_entry name_cmp es k p) (e ∷ without k.items (insert_entry name_cmp es k p))) other
        ∙ ap (λ (left : Entries). e ∷ left) (rest (sym (there-other k.items e es other) ∙ none))

pub adds-kept : (old new : Named) (name : List ℕ) → IsUnchanged old new → AddsOnly old new name
adds-kept old new name same = ((λ yes. same), λ none. ap (without name) same ∙ without-absent name old.entries none)

pub adds-new : (old new : Named) (k : Vec ℕ Global) (p : Part) → get name_cmp old k ≡ None → new.entries ≡ insert_entry name_cmp old.entries k p → AddsOnly old new k.items
adds-new old new k p none added =
    let fresh : has_name old k.items ≡ false = ap is_some none in (
      (λ yes. absurd (true≢false (sym yes ∙ fresh))),
      λ same. ap (without k.items) added ∙ without-insert_entry k p old.entries fresh,
    )

-- the last name is taken out first
pub without_all-push : (names : List (List ℕ)) (name : List ℕ) (es : Entries) → without_all (names ++ name ∷ []) es ≡ without_all names (without name es)
without_all-push [] name es = refl
without_all-push (n ∷ names) name es = ap (without n) (without_all-push names name es)

-- one part more
pub undone_on : (old now new : Named) (name : List ℕ) (a b : Vec (Vec ℕ Global) Global) → IsUndone old now a → IsNoted now name a b → AddsOnly now new name → IsUndone old new b
undone_on old now new name a b undone noted adds =
    let names : without_all (names_in b) new.entries ≡ without_all (names_in a ++ cond (has_name now name) [] (name ∷ [])) new.entries = ap (λ (ns : List (List ℕ)). without_all ns new.entries) noted in
    elim (cases_Bool (has_name now name)) [
      | inl known ↦
          names
          ∙ ap (λ b. without_all (names_in a ++ cond b [] (name ∷ [])) new.entries) known
          ∙ ap (λ (ns : List (List ℕ)). without_all ns new.entries) (append-nil (names_in a))
          ∙ ap (without_all (names_in a)) (adds.0 known)
          ∙ undone
      | inr fresh ↦
          names
          ∙ ap (λ b. without_all (names_in a ++ cond b [] (name ∷ [])) new.entries) fresh
          ∙ without_all-push (names_in a) name new.entries
          ∙ ap (without_all (names_in a)) (adds.1 fresh)
          ∙ undone
    ]

-- nothing has been added
pub undone_begins : (old : Named) (a : Vec (Vec ℕ Global) Global) → a.items ≡ [] → IsUndone old old a
undone_begins old a none = ap (λ (names : List (Vec ℕ Global)). without_all (map (λ name. name.items) names) old.entries) none

-- no name more
pub undone_still : (old now : Named) (a b : Vec (Vec ℕ Global) Global) → IsUndone old now a → names_in b ≡ names_in a → IsUndone old now b
undone_still old now a b undone same = ap (λ (names : List (List ℕ)). without_all names now.entries) same ∙ undone

-- a part that was not added
pub undone_stays : (old now new : Named) (name : List ℕ) (a b : Vec (Vec ℕ Global) Global) → IsUndone old now a → IsNoted now name a b → IsUnchanged now new → IsUndone old new b
undone_stays old now new name a b undone noted same = undone_on old now new name a b undone noted (adds-kept now new name same)

-- the names that are noted
pub noted-known : (parts : Named) (name owned : List ℕ) (a : Vec (Vec ℕ Global) Global) → owned ≡ name → true ≡ has_name parts owned → IsNoted parts name a a
noted-known parts name owned a same known =
    sym (append-nil (names_in a))
    ∙ ap (λ b. names_in a ++ cond b [] (name ∷ [])) (known ∙ ap (has_name parts) same)

names-push : (a b : Vec (Vec ℕ Global) Global) (v : Vec ℕ Global) → b.items ≡ a.items ++ v ∷ [] → names_in b ≡ names_in a ++ v.items ∷ []
names-push a b v grown = ap (map (λ (name : Vec ℕ Global). name.items)) grown ∙ map-append (λ (name : Vec ℕ Global). name.items) a.items (v ∷ [])

pub noted-new : (parts : Named) (name : List ℕ) (a b : Vec (Vec ℕ Global) Global) (v : Vec ℕ Global)
    → v.items ≡ name → false ≡ has_name parts v.items → b.items ≡ a.items ++ v ∷ [] → IsNoted parts name a b
noted-new parts name a b v same fresh grown =
    names-push a b v grown
    ∙ ap (λ (n : List ℕ). names_in a ++ n ∷ []) same
    ∙ ap (λ b. names_in a ++ cond b [] (name ∷ [])) (fresh ∙ ap (has_name parts) same)

-- the last of the names is taken out
pub out_one : (a b : Vec (Vec ℕ Global) Global) (v : Vec ℕ Global) (m n goal : Entries)
    → a.items ≡ b.items ++ v ∷ [] → n ≡ without v.items m → without_all (names_in a) m ≡ goal → without_all (names_in b) n ≡ goal
out_one a b v m n goal grown removed before =
    ap (without_all (names_in b)) removed
    ∙ sym (without_all-push (names_in b) v.items m)
    ∙ sym (ap (λ (ns : List (List ℕ)). without_all ns m) (names-push b a v grown))
    ∙ before

-- no name is left
pub out_all : (a : Vec (Vec ℕ Global) Global) (m goal : Entries) → length a.items ≡ 0 → without_all (names_in a) m ≡ goal → m ≡ goal
out_all a m goal none before = sym (ap (λ (names : List (Vec ℕ Global)). without_all (map (λ name. name.items) names) m) (nothing a.items none)) ∙ before
  where
    nothing : (names : List (Vec ℕ Global)) → length names ≡ 0 → names ≡ []
    nothing [] is = refl
    nothing (v ∷ names) is = absurd (omega (arith, is))
