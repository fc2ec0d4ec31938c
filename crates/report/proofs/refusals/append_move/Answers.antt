-- Each line is one piece.
use Rattle.report.proofs.refusals.append_move.Goals as goal

pub returns-in-NoSuchSchedule-clause-ok : goal.returns-in-NoSuchSchedule-clause-ok
returns-in-NoSuchSchedule-clause-ok c = rw c.in-NoSuchSchedule.is c.append_bytes.ensures.ok

pub returns-in-NameTaken-clause-ok : goal.returns-in-NameTaken-clause-ok
returns-in-NameTaken-clause-ok c = rw c.in-NameTaken.is c.append_bytes-in-NameTaken.ensures.ok

pub returns-in-NoSuchProposal-clause-ok : goal.returns-in-NoSuchProposal-clause-ok
returns-in-NoSuchProposal-clause-ok c = rw c.in-NoSuchProposal.is c.append_bytes-in-NoSuchProposal.ensures.ok

pub returns-in-NothingToRetract-clause-ok : goal.returns-in-NothingToRetract-clause-ok
returns-in-NothingToRetract-clause-ok c = rw c.in-NothingToRetract.is c.append_bytes-in-NothingToRetract.ensures.ok

pub returns-in-TooShort-clause-ok : goal.returns-in-TooShort-clause-ok
returns-in-TooShort-clause-ok c = rw c.in-TooShort.is c.append_bytes-in-TooShort.ensures.ok

pub returns-in-OutOfMemory-clause-ok : goal.returns-in-OutOfMemory-clause-ok
returns-in-OutOfMemory-clause-ok c = rw c.in-OutOfMemory.is c.append_bytes-in-OutOfMemory.ensures.ok
