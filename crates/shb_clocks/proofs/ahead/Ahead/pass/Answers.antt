use Rattle.std.proofs.Common.{true, false}
use Rattle.shb_clocks.proofs.AheadLemmas.{named_variable, IsWithoutPartner-seen, LieAhead-write, LieAhead-other, other_no_access}
use Rattle.shb_clocks.proofs.PartnerLemmas.{no_partner}
use Rattle.shb_clocks.proofs.ahead.Ahead.pass.Goals as goal

pub returns-in-Read-clause-none : goal.returns-in-Read-clause-none
returns-in-Read-clause-none c is =
    let low = named_variable c.args.indexed.now true _ _ c.in-Read.is c.event.ensures.named in
    IsWithoutPartner-seen c.args.indexed.now _ _ c.event.ensures.found _ _ c.requires.ahead true _ _ low c.in-Read.is
    c.seen_by-rivals.ensures (c.are_any.ensures is c.args.indexed.now.events)

pub returns-in-Write-clause-ahead : goal.returns-in-Write-clause-ahead
returns-in-Write-clause-ahead c =
    let low = named_variable c.args.indexed.now false _ _ c.in-Write.is c.event.ensures.named in
    LieAhead-write c.args.indexed.now _ _ c.event.ensures.found _ _ c.requires.ahead _ _ low c.in-Write.is c.seen_by-rivals-in-Write.ensures

pub returns-in-Write-clause-none : goal.returns-in-Write-clause-none
returns-in-Write-clause-none c is =
    let low = named_variable c.args.indexed.now false _ _ c.in-Write.is c.event.ensures.named in
    IsWithoutPartner-seen c.args.indexed.now _ _ c.event.ensures.found _ _ c.requires.ahead false _ _ low c.in-Write.is
    c.seen_by-rivals-in-Write.ensures (c.are_any-in-Write.ensures is c.args.indexed.now.events)

pub returns-in-Acquire : goal.returns-in-Acquire
returns-in-Acquire c =
    record {
      ahead = LieAhead-other c.args.indexed.now _ _ c.event.ensures.found _ _ c.requires.ahead c.in-Acquire.is;
      none = λ _ b. no_partner _ _ b _ c.event.ensures.found (other_no_access _ c.in-Acquire.is);
    }
