-- A book with its log and its board may go to another thread, and threads may share the lock round it.
-- The check itself finds no such fact of a type that holds a tree, as the clocks of the book are. So they are built up here, type by type.
use denote.Param.Send.{IsSend, IsSync, sendable, view_send}
use denote.Param.SendFields.{declared_send}
use Rattle.std.proofs.Crossing.{crosses, Vec-send}
use Rattle.linger_clock.proofs.tree.Tree.TheLaws.TheKnot as tree
use Rattle.linger_clock.specs.contracts.Clock as Clock
use Rattle.linger_table.specs.contracts.table.LingerTable as LingerTable
use Rattle.seat_rows.specs.contracts.beats.Beats as Beats
use Rattle.seat_rows.specs.contracts.SeatRows as SeatRows
use Rattle.seat_counters.proofs.tally.Counters.TheSendSync as counters
use Rattle.policy.proofs.rules.DeskRules.TheSendSync as rules
use Rattle.seat_book.specs.contracts.parts.Parts as Parts
use Rattle.seat_book.specs.contracts.book.Book as Book
use Rattle.seat_book.specs.contracts.book.Book.TheInside as inside
use Rattle.audit_log.proofs.queue.LogPush.TheSendSync as log
use Rattle.stat_board.proofs.board.Board.TheSendSync as board
use Rattle.options_machine.specs.contracts.reply.Request as Request
use Rattle.turn_lock.specs.contracts.turns.Turns as Turns
use Rattle.turn_lock.proofs.turns.Turns.TheSendSync as turns
use Rattle.desk_book.specs.contracts.book.DeskBook as DeskBook
use Rattle.desk_book.specs.contracts.book.DeskLaw as DeskLaw
use Rattle.desk_book.specs.contracts.book.NotedReply as NotedReply
use Rattle.desk_book.specs.contracts.book.DeskBookKept.TheImpl.{ghosts}

clock_send : IsSend Clock.the_row
clock_send = search (sendable, crosses, tree.crosses) depth 40

beats_send : IsSend Beats.the_row
beats_send = search (clock_send, sendable, crosses) depth 40

rows_send : IsSend SeatRows.the_row
rows_send = search (beats_send, sendable, crosses) depth 40

table_send : IsSend LingerTable.the_row
table_send = search (clock_send, sendable, crosses) depth 40

parts_send : IsSend Parts.the_row
parts_send = search (rows_send, table_send, counters.the_send, sendable, crosses) depth 40

fields_send : IsSend inside.the_row
fields_send = declared_send inside.the_type (Vec-send _ rules.the_send, (parts_send, (search sendable, tt)))

book_send : IsSend Book.the_row
book_send = search (fields_send, view_send)

desk_book_send : IsSend DeskBook.the_row
desk_book_send = declared_send DeskBook.the_type (book_send, (log.the_send, (search sendable, (board.the_send, tt))))

pub lock_sync : IsSync (Turns.the_row DeskBook.the_row Request.the_row NotedReply.the_row DeskLaw.the_row ghosts)
lock_sync = turns.the_sync DeskBook.the_row Request.the_row NotedReply.the_row DeskLaw.the_row ghosts desk_book_send
