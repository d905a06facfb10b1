-- What a call of a list stands for.
use Rattle.std.proofs.Common.{List, None, Some, ap, get_or, inr, length, map, suc, sym, ℕ, ◌<◌, ◌∙◌, ◌≡◌, ◌≤◌}
use Rattle.std.proofs.lemmas.Option.{slice_get-get_or, slice_get-map, slice_get_past}
use Rattle.std.specs.{Option.option_map, Prelude.Option}
use Rattle.argus_journal.specs.{Call.PlainCall, Reply.{PlainReply, plain_reply}, declared.Reply.Reply}
use Rattle.argus_embed.specs.{CallEach.{IsUnreadWith, SaysWith, action_begun, action_by, request_of}, Requests.IsRead}
use Rattle.argus_embed.specs.declared.listed_call.ListedCall.{ListedCall}
use Rattle.argus_embed.specs.declared.embed_error.EmbedError.TheVariants as error

-- out of memory may come in place of each call that it stands for
pub unread_for_memory : (found : Option ℕ) (each : ListedCall) (call : PlainCall) → SaysWith found each call
    → IsUnreadWith found each error.OutOfMemory
unread_for_memory None each call says = absurd says
unread_for_memory (Some action) each call says =
    let read : IsRead (request_of each action) each.text.now = says.2 in
    inr (says.0, read.0)

-- the action is the one that an earlier call began, as its reply says
pub begun_there : (items : List Reply) (n place action : ℕ) (r d : Reply) → n ≡ suc place → place < length items
    → r ≡ get_or items place d → action_begun (Some (plain_reply r)) ≡ action_by (map plain_reply items) n action
begun_there items n place action r d number there is =
    sym (ap (λ (k : ℕ). action_by (map plain_reply items) k action) number
    ∙ ap (λ (o : Option PlainReply). action_begun o) (slice_get-map plain_reply items place
    ∙ ap (λ (o : Option Reply). option_map plain_reply o) (slice_get-get_or items place d there
    ∙ ap (λ (x : Reply). Some x) (sym is))))

-- there is none where that call isn't an earlier one
pub begun_past : (items : List Reply) (n place action : ℕ) → n ≡ suc place → length items ≤ place
    → None ≡ action_by (map plain_reply items) n action
begun_past items n place action number past =
    sym (ap (λ (k : ℕ). action_by (map plain_reply items) k action) number
    ∙ ap (λ (o : Option PlainReply). action_begun o) (slice_get-map plain_reply items place
    ∙ ap (λ (o : Option Reply). option_map plain_reply o) (slice_get_past items place past)))
