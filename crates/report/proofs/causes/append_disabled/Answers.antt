-- Each cause has its words.
use Rattle.std.proofs.Common.{◌≡◌, ◌++◌, List, ℕ, OnOk, codes, append-nil, subst}
use Rattle.report.specs.Causes.{event_words, thread_words}
use Rattle.report.proofs.PieceLemmas.{four-pieces}
use Rattle.report.proofs.causes.append_disabled.Goals as goal

pub returns-in-NoSuchEvent-clause-ok : goal.returns-in-NoSuchEvent-clause-ok
returns-in-NoSuchEvent-clause-ok c = rw c.in-NoSuchEvent.is c.append_bytes.ensures.ok

pub returns-in-NotForked-clause-ok : goal.returns-in-NotForked-clause-ok
returns-in-NotForked-clause-ok c = rw c.in-NotForked.is c.append_bytes-in-NotForked.ensures.ok

pub returns-in-WrongWriter-clause-ok : goal.returns-in-WrongWriter-clause-ok
returns-in-WrongWriter-clause-ok c =
    let call = c.append_pieces in
    let told : List ℕ → Type 0 = λ words. OnOk call.result (call.new.out.items ≡ c.args.out.now.items ++ words) in
    let needs = c.in-WrongWriter.needs in
    let has = c.in-WrongWriter.has in
    let words = four-pieces (codes "46 24 wrong writer needs ") (event_words needs) (codes " has ") (event_words has) _ _ c.event_piece.ensures c.event_piece-in-WrongWriter.ensures in
    rw c.in-WrongWriter.is (subst told words call.ensures.ok)

pub returns-in-LockHeld-clause-ok : goal.returns-in-LockHeld-clause-ok
returns-in-LockHeld-clause-ok c =
    let words = thread_words c.args.indexed.now c.in-LockHeld.thread in
    let named = rw c.thread_piece.ensures at c.append_pieces-in-LockHeld.ensures.ok in
    rw c.in-LockHeld.is (rw (append-nil words) at named)

pub returns-in-JoinEarly-clause-ok : goal.returns-in-JoinEarly-clause-ok
returns-in-JoinEarly-clause-ok c = rw c.in-JoinEarly.is c.append_bytes-in-JoinEarly.ensures.ok
