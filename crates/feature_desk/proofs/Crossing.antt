-- Threads may share a desk, and a closure over what they may share.
use mathlib.Core.List.{List, [], ◌∷◌}
use Prim.Native.Nat.{ℕ}
use mir.Syntax.{Sym, Ty}
use denote.Exit.{Kept}
use denote.RattleType.{RattleType}
use denote.Param.{arg, param}
use denote.Param.Send.{IsSend, IsSync, AllSend, AllSync, arg_send, arg_sync, param_send, param_sync, view_sync}
use denote.Param.SendFields.{FieldsHave, as_row_send, as_row_sync, declared_send, declared_sync}
use denote.Struct.Field.{row_field}
use denote.Struct.Tuple.{TupleAt, parts, type_at}
use Rattle.desk_seats.proofs.seats.DeskSeats.TheSendSync as seats
use Rattle.desk_book.proofs.Crossing.{lock_sync}
use Rattle.feature_desk.specs.contracts.desk.Desk.{the_row}
use Rattle.feature_desk.specs.contracts.desk.Desk.TheInside as inside

fields_sync : IsSync inside.the_row
fields_sync = declared_sync inside.the_type (lock_sync, (seats.the_sync, tt))

pub desk_sync : IsSync the_row
desk_sync = search (fields_sync, view_sync)

captures_sync : (Ts : List RattleType) → AllSync Ts → FieldsHave IsSync (parts Ts)
captures_sync [] s = tt
captures_sync (T ∷ Ts) s = (as_row_sync (row_field T) s.0, captures_sync Ts s.1)

-- a closure, as a call is handed it: Ts are the types of what it captures
pub closure_sync : (i : ℕ) (δ : Ty) (k : Kept) (ν : Sym) (Ts : List RattleType) → AllSync Ts → IsSync (param i (arg δ k (TupleAt ν Ts)))
closure_sync i δ k ν Ts s = param_sync i (arg δ k (TupleAt ν Ts)) (arg_sync δ k (TupleAt ν Ts) (declared_sync (type_at ν Ts) (captures_sync Ts s)))

given_send : (Ts : List RattleType) → AllSend Ts → FieldsHave IsSend (parts Ts)
given_send [] s = tt
given_send (T ∷ Ts) s = (as_row_send (row_field T) s.0, given_send Ts s.1)

-- a closure that goes to another thread, as a call is handed it
pub closure_send : (i : ℕ) (δ : Ty) (k : Kept) (ν : Sym) (Ts : List RattleType) → AllSend Ts → IsSend (param i (arg δ k (TupleAt ν Ts)))
closure_send i δ k ν Ts s = param_send i (arg δ k (TupleAt ν Ts)) (arg_send δ k (TupleAt ν Ts) (declared_send (type_at ν Ts) (given_send Ts s)))
