use Rattle.std.proofs.Common.{◌<◌, length, refl, sym, arith}
use Rattle.std.proofs.lemmas.Option.{slice_get-get_or}
use Rattle.variable_uses.proofs.SharedLemmas.{AreSharingsBefore-none, AreSharingsBefore-one, IsSharingAt-read, IsSharingAt-write, no_access, read_here, read_only, read_writes_not, write_here, write_only, write_writes}
use Rattle.variable_uses.proofs.choosing.note_access.Goals as goal

pub returns-in-Read-clause-sharing : goal.returns-in-Read-clause-sharing
returns-in-Read-clause-sharing c =
    let T = c.args.indexed.now.events in
    let v = c.event-found.result in
    let found = c.event-found.ensures.found in
    let x = c.in-Read.variable in
    let sharing = c.args.sharing.now in
    let named = rw c.in-Read.is at c.event-found.ensures.named.1 in
    let within : c.in-Read.variable < length c.args.sharing.now = omega (arith, named, c.requires.len) in
    let was = slice_get-get_or sharing x _ within in
    AreSharingsBefore-one T c.args.ones.now c.args.others.now c.args.event v found sharing c.requires.sharing x c.with_read.result _ within refl
    (IsSharingAt-read T c.args.ones.now c.args.others.now c.args.event v found x _ c.with_read.result c.flag_at-one.result c.flag_at-other.result (sym c.flag_at-one.ensures) (sym c.flag_at-other.ensures)
    (c.requires.sharing x _ was) (read_here v.op x c.in-Read.is) (read_writes_not v.op x c.in-Read.is) c.with_read.ensures.ones c.with_read.ensures.one_writers c.with_read.ensures.others c.with_read.ensures.other_writers)
    (read_only v.op x c.in-Read.is)

pub returns-in-Write-clause-sharing : goal.returns-in-Write-clause-sharing
returns-in-Write-clause-sharing c =
    let T = c.args.indexed.now.events in
    let v = c.event-found.result in
    let found = c.event-found.ensures.found in
    let x = c.in-Write.variable in
    let sharing = c.args.sharing.now in
    let named = rw c.in-Write.is at c.event-found.ensures.named.1 in
    let within : c.in-Write.variable < length c.args.sharing.now = omega (arith, named, c.requires.len) in
    let was = slice_get-get_or sharing x _ within in
    AreSharingsBefore-one T c.args.ones.now c.args.others.now c.args.event v found sharing c.requires.sharing x c.with_write.result _ within refl
    (IsSharingAt-write T c.args.ones.now c.args.others.now c.args.event v found x _ c.with_write.result c.flag_at-one.result c.flag_at-other.result (sym c.flag_at-one.ensures) (sym c.flag_at-other.ensures)
    (c.requires.sharing x _ was) (write_here v.op x c.in-Write.is) (write_writes v.op x c.in-Write.is) c.with_write.ensures.ones c.with_write.ensures.one_writers c.with_write.ensures.others c.with_write.ensures.other_writers)
    (write_only v.op x c.in-Write.is)

pub returns-in_default-clause-sharing : goal.returns-in_default-clause-sharing
returns-in_default-clause-sharing c =
    AreSharingsBefore-none c.args.indexed.now.events c.args.ones.now c.args.others.now c.args.event c.event-found.result c.event-found.ensures.found c.args.sharing.now c.requires.sharing
    (no_access c.event-found.result.op c.in_default.not-Read c.in_default.not-Write)
