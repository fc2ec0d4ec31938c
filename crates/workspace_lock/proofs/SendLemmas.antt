-- A seat may go to another thread, with the shared bench. Each type that it holds is a step of its own, since a search that
-- goes down through all of them gives up.
use denote.Param.Send.{IsSend, sendable, view_send, recorded_send, struct_send}
use denote.Struct.Declared.{shape}
use Rattle.std.proofs.Crossing.{crosses}
use Rattle.std.proofs.MapsCrossing as maps
use Rattle.indexmap.proofs.map.IndexMap.TheSendSync as IndexMapSend
use Rattle.schedule.specs.contracts.schedule.Schedule as Schedule
use Rattle.schedule.specs.contracts.schedule.Schedule.TheInside as ScheduleInside
use Rattle.schedule.proofs.tables.Tables.TheSendSync as TablesSend
use Rattle.rapid_text.proofs.names.TextKeyed.TheSendSync as TextKeyedSend
use Rattle.moves.proofs.name.Name.TheSendSync as NameSend
use Rattle.moves.specs.contracts.row.Row as Row
use Rattle.moves.specs.contracts.board.Proposal as Proposal
use Rattle.moves.specs.contracts.board.Board as Board
use Rattle.moves.specs.contracts.board.Board.TheInside as BoardInside
use Rattle.moves.specs.contracts.inverse.Step as Step
use Rattle.moves.specs.contracts.inverse.Inverse as Inverse
use Rattle.moves.specs.contracts.batch.Inverses as Inverses
use Rattle.moves.specs.contracts.batch.Inverses.TheInside as InversesInside
use Rattle.moves.specs.contracts.listing.Listing as Listing
use Rattle.moves.specs.contracts.listing.Listing.TheInside as ListingInside
use Rattle.moves.specs.contracts.workspace.Workspace as Workspace
use Rattle.moves.specs.contracts.workspace.Workspace.TheInside as WorkspaceInside
use Rattle.event_index.proofs.indexed.Indexed.TheSendSync as IndexedSend
use Rattle.dependence.proofs.touches.Touches.TheSendSync as TouchesSend
use Rattle.dependence.proofs.clients.Clients.TheSendSync as ClientsSend
use Rattle.inverse_log.proofs.entry.Entry.TheSendSync as EntrySend
use Rattle.inverse_log.specs.contracts.kept.Held as Held
use Rattle.inverse_log.specs.contracts.kept.Form as Form
use Rattle.inverse_log.specs.contracts.kept.Kept as Kept
use Rattle.inverse_log.specs.contracts.kept.Kept.TheInside as KeptInside
use Rattle.inverse_log.specs.contracts.bench.Bench as Bench
use Rattle.inverse_log.specs.contracts.bench.Bench.TheInside as BenchInside
use Rattle.atomic_table.proofs.owned.Table.TheSendSync as TableSend
use Rattle.atomic_table.proofs.shared.Seat.TheSendSync as PlaceSend
use Rattle.workspace_lock.specs.contracts.seat.Seat as Seat
use Rattle.workspace_lock.specs.contracts.seat.Seat.TheInside as SeatInside

schedule_inside : IsSend ScheduleInside.the_row
schedule_inside =
    recorded_send (ScheduleInside.the_field).row _ _ (ScheduleInside.the_type).to_one
    (struct_send (shape ScheduleInside.the_type)
    (search (sendable, crosses) depth 20, (search (sendable, crosses) depth 20, (search (TablesSend.the_field_send, sendable, crosses) depth 20, tt))))

schedule_send : IsSend Schedule.the_row
schedule_send = view_send ScheduleInside.the_row _ _ _ _ schedule_inside

row_send : IsSend (Row.the_field).row
row_send = struct_send (shape Row.the_type) (search (sendable, crosses) depth 20, (search (schedule_send, sendable, crosses) depth 20, tt))

row_row : IsSend Row.the_row
row_row = recorded_send (Row.the_field).row _ _ (Row.the_type).to_one row_send

proposal_send : IsSend (Proposal.the_field).row
proposal_send = struct_send (shape Proposal.the_type) (search (sendable, crosses) depth 20, (search (sendable, crosses) depth 20, (search (schedule_send, sendable, crosses) depth 20, tt)))

proposal_row : IsSend Proposal.the_row
proposal_row = recorded_send (Proposal.the_field).row _ _ (Proposal.the_type).to_one proposal_send

board_inside : IsSend BoardInside.the_row
board_inside =
    recorded_send (BoardInside.the_field).row _ _ (BoardInside.the_type).to_one
    (struct_send (shape BoardInside.the_type)
    (search (proposal_row, sendable, crosses) depth 20, tt))

board_send : IsSend Board.the_row
board_send = view_send BoardInside.the_row _ _ _ _ board_inside

step_send : IsSend (Step.the_field).row
step_send = search (schedule_send, row_send, sendable, crosses) depth 20

inverse_send : IsSend (Inverse.the_field).row
inverse_send = struct_send (shape Inverse.the_type) (search (NameSend.the_send, sendable, crosses) depth 20, (search (step_send, sendable, crosses) depth 20, tt))

inverse_row : IsSend Inverse.the_row
inverse_row = recorded_send (Inverse.the_field).row _ _ (Inverse.the_type).to_one inverse_send

inverses_inside : IsSend InversesInside.the_row
inverses_inside =
    recorded_send (InversesInside.the_field).row _ _ (InversesInside.the_type).to_one
    (struct_send (shape InversesInside.the_type)
    (search (inverse_row, sendable, crosses) depth 20, tt))

inverses_send : IsSend Inverses.the_row
inverses_send = view_send InversesInside.the_row _ _ _ _ inverses_inside

held_send : IsSend (Held.the_field).row
held_send = search (step_send, inverses_send, sendable, crosses) depth 20

held_row : IsSend Held.the_row
held_row = recorded_send (Held.the_field).row _ _ (Held.the_type).to_one held_send

form_send : IsSend (Form.the_field).row
form_send = search (held_row, sendable, crosses) depth 20

kept_inside : IsSend KeptInside.the_row
kept_inside =
    recorded_send (KeptInside.the_field).row _ _ (KeptInside.the_type).to_one
    (struct_send (shape KeptInside.the_type)
    (search (form_send, sendable, crosses) depth 20, tt))

kept_send : IsSend Kept.the_row
kept_send = view_send KeptInside.the_row _ _ _ _ kept_inside

listing_inside : IsSend ListingInside.the_row
listing_inside =
    recorded_send (ListingInside.the_field).row _ _ (ListingInside.the_type).to_one
    (struct_send (shape ListingInside.the_type) (
      search (NameSend.the_send, TextKeyedSend.the_send, IndexMapSend.the_send, sendable, crosses) depth 20,
      (
        search (sendable, crosses) depth 20,
        (
          search (row_row, NameSend.the_send, maps.crosses, sendable, crosses) depth 20,
          tt,
        ),
      ),
    ))

listing_send : IsSend Listing.the_row
listing_send = view_send ListingInside.the_row _ _ _ _ listing_inside

workspace_inside : IsSend WorkspaceInside.the_row
workspace_inside =
    recorded_send (WorkspaceInside.the_field).row _ _ (WorkspaceInside.the_type).to_one
    (struct_send (shape WorkspaceInside.the_type)
    (search (sendable, crosses) depth 20, (search (listing_send, sendable, crosses) depth 20, tt)))

workspace_send : IsSend Workspace.the_row
workspace_send = view_send WorkspaceInside.the_row _ _ _ _ workspace_inside

bench_inside : IsSend BenchInside.the_row
bench_inside =
    recorded_send (BenchInside.the_field).row _ _ (BenchInside.the_type).to_one
    (struct_send (shape BenchInside.the_type) (
      search (sendable, crosses) depth 20,
      (
        search (IndexedSend.the_send, IndexedSend.the_sync, sendable, crosses) depth 20,
        (
          search (workspace_send, sendable, crosses) depth 20,
          (
            search (board_send, sendable, crosses) depth 20,
            (
              search (EntrySend.the_send, sendable, crosses) depth 20,
              (
                search (kept_send, sendable, crosses) depth 20,
                (
                  search (held_row, sendable, crosses) depth 20,
                  (
                    search (TouchesSend.the_send, sendable, crosses) depth 20,
                    (
                      search (ClientsSend.the_send, sendable, crosses) depth 20,
                      tt,
                    ),
                  ),
                ),
              ),
            ),
          ),
        ),
      ),
    ))

bench_send : IsSend Bench.the_row
bench_send = view_send BenchInside.the_row _ _ _ _ bench_inside

seat_inside : IsSend SeatInside.the_row
seat_inside =
    recorded_send (SeatInside.the_field).row _ _ (SeatInside.the_type).to_one
    (struct_send (shape SeatInside.the_type) (
      search (bench_send, TableSend.the_field_send, TableSend.the_field_sync, sendable, crosses) depth 20,
      (
        search (bench_send, PlaceSend.the_send, sendable, crosses) depth 20,
        (
          search (sendable, crosses) depth 20,
          (
            search (sendable, crosses) depth 20,
            tt,
          ),
        ),
      ),
    ))

pub seat_send : IsSend Seat.the_row
seat_send = view_send SeatInside.the_row _ _ _ _ seat_inside
