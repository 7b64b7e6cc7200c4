-- Calls of one client, one after the other: what each leaves behind in the record. `room` is the length of the area that is lent. Assumes nothing.
use Rattle.std.specs.Prelude.{List, [], ◌∷◌, ℕ}
use Rattle.numbers.specs.declared.View.{View}
use Rattle.client.specs.declared.Client.{Client}
use Rattle.client.specs.Client.{requested_of, replied_of}

pub data ClientCall : Type 0 where
  request : (operation member cents room : ℕ) → ClientCall
  reply : (number : ℕ) → View → ClientCall
  idle : (room : ℕ) → ClientCall

unfoldable pub after_call : Client → ClientCall → Client
after_call c (request operation member cents room) = (requested_of c operation member cents room).client
after_call c (reply number view) = (replied_of c number view).client
after_call c (idle room) = c

unfoldable pub after_calls : Client → List ClientCall → Client
after_calls c [] = c
after_calls c (k ∷ ks) = after_calls (after_call c k) ks
