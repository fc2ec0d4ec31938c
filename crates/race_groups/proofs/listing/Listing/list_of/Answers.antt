use Rattle.std.proofs.Common.{ℕ, Option, Some, Vec, get_or, length, refl, sym, ap, ◌∙◌, subst, arith}
use Rattle.std.specs.declared.alloc.Global.{Global}
use Rattle.std.proofs.lemmas.Option.{slice_get-get_or, slice_get_read}
use Rattle.race_groups.specs.Holding.{AreKnown}
use Rattle.race_groups.proofs.HeldLemmas.{AreLocksOfThread-from}
use Rattle.race_groups.proofs.ListingLemmas.{AreKnown-grown, AreKnown-made}
use Rattle.race_groups.proofs.listing.Listing.list_of.Goals as goal

pub returns-in-Some-clause-at : goal.returns-in-Some-clause-at
returns-in-Some-clause-at c =
    let known = c.args.self.now.known.items in
    let there = slice_get_read known (length known) c.args.thread c.index.result.now refl (omega (arith, c.requires.thread, c.requires.threads)) c.index.ensures in
    c.requires.known c.args.thread c.in-Some.number (there ∙ ap Some c.in-Some.is)

pub returns-clause-at : goal.returns-clause-at
returns-clause-at c =
    let held = c.args.holds.held.now in
    let t = c.args.thread in
    let d = c.args.self.now.lent in
    let is = slice_get-get_or held t d (omega (arith, c.requires.thread, c.requires.len)) in
    AreLocksOfThread-from c.args.holds.indexed.now.events c.numbered.new.lists.keys held (length c.args.holds.indexed.now.threads) c.args.holds.takers.now c.args._event c.in_ok-number.number t
    (get_or held t d) c.gather.new.self.lent.items c.requires.takers c.requires.held is (c.in_ok-gather.ensures.lent (get_or held t d) is) c.in_ok-number.ensures.at

pub returns-clause-known : goal.returns-clause-known
returns-clause-known c =
    let T = c.args.holds.indexed.now.events in
    let lists = c.numbered.new.lists.keys in
    let held = c.args.holds.held.now in
    let t = c.args.thread in
    let d = c.args.self.now.lent in
    let is = slice_get-get_or held t d (omega (arith, c.requires.thread, c.requires.len)) in
    let made = AreLocksOfThread-from T lists held (length c.args.holds.indexed.now.threads) c.args.holds.takers.now c.args._event c.in_ok-number.number t
    (get_or held t d) c.gather.new.self.lent.items c.requires.takers c.requires.held is (c.in_ok-gather.ensures.lent (get_or held t d) is) c.in_ok-number.ensures.at in
    let same = c.in_ok-number.ensures.known ∙ c.in_ok-gather.ensures.known in
    let are : AreKnown T c.args._event lists c.numbered.new.self.known.items =
    subst (λ (v : Vec (Option ℕ) Global). AreKnown T c.args._event lists v.items) (sym same)
    (AreKnown-grown T c.args.lists.now.keys lists c.args._event c.args.self.now.known.items c.in_ok-number.ensures.grown c.requires.known) in
    let long = ap (λ (v : Vec (Option ℕ) Global). length v.items) same in
    AreKnown-made T lists c.args._event c.numbered.new.self.known.items are t c.in_ok-number.number _ (omega (arith, long, c.requires.thread, c.requires.threads)) refl made
