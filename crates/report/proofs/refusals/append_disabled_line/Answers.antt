-- Each line is one piece.
use Rattle.report.proofs.refusals.append_disabled_line.Goals as goal

pub returns-in-NoSuchEvent-clause-ok : goal.returns-in-NoSuchEvent-clause-ok
returns-in-NoSuchEvent-clause-ok c = rw c.in-NoSuchEvent.is c.append_bytes.ensures.ok

pub returns-in-NotNext-clause-ok : goal.returns-in-NotNext-clause-ok
returns-in-NotNext-clause-ok c = rw c.in-NotNext.is c.append_bytes-in-NotNext.ensures.ok

pub returns-in-NotForked-clause-ok : goal.returns-in-NotForked-clause-ok
returns-in-NotForked-clause-ok c = rw c.in-NotForked.is c.append_bytes-in-NotForked.ensures.ok

pub returns-in-JoinEarly-clause-ok : goal.returns-in-JoinEarly-clause-ok
returns-in-JoinEarly-clause-ok c = rw c.in-JoinEarly.is c.append_bytes-in-JoinEarly.ensures.ok
