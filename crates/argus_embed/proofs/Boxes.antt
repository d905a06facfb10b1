-- The handles, with what is in the box of each.
use Rattle.argus_embed.specs.contracts.embedded.Embedded as Embedded
use Rattle.argus_embed.proofs.embedded.Embedded.TheLaws as embedded
use Rattle.argus_embed.specs.contracts.parsed_call.ParsedCall as ParsedCall
use Rattle.argus_embed.proofs.parsed_call.ParsedCall.TheLaws as parsed_call
use Rattle.argus_embed.specs.contracts.held.Held as Held
use Rattle.argus_embed.specs.contracts.held_parsed.HeldParsed as HeldParsed
use Rattle.argus_embed.specs.contracts.held_ready.HeldReady as HeldReady
use Rattle.argus_embed.specs.contracts.ready_guardian.ReadyGuardian as ReadyGuardian
use Rattle.argus_embed.proofs.ready_guardian.ReadyGuardian.TheLaws as ready_guardian
use Rattle.argus_embed.proofs.{Handles.Handle, Steps.refl}

abbrev pub guardian_handle : Handle
guardian_handle = record {
  inner = Embedded.the_row;
  laws = embedded.the_row_laws;
  type = Held.the_type;
  to = λ d. (d.at, d.alloc, d.store);
  from = λ h. record { at = h.0; alloc = h.1; store = h.2 };
  owns = λ h ws. refl;
  is = λ d. refl;
  keeps = λ h. refl;
  parts = λ v ws. refl;
  last = λ d. tt;
  silent = λ d f. refl;
}

abbrev pub parsed_handle : Handle
parsed_handle = record {
  inner = ParsedCall.the_row;
  laws = parsed_call.the_row_laws;
  type = HeldParsed.the_type;
  to = λ d. (d.at, d.alloc, d.store);
  from = λ h. record { at = h.0; alloc = h.1; store = h.2 };
  owns = λ h ws. refl;
  is = λ d. refl;
  keeps = λ h. refl;
  parts = λ v ws. refl;
  last = λ d. tt;
  silent = λ d f. refl;
}

abbrev pub ready_handle : Handle
ready_handle = record {
  inner = ReadyGuardian.the_row;
  laws = ready_guardian.the_row_laws;
  type = HeldReady.the_type;
  to = λ d. (d.at, d.alloc, d.store);
  from = λ h. record { at = h.0; alloc = h.1; store = h.2 };
  owns = λ h ws. refl;
  is = λ d. refl;
  keeps = λ h. refl;
  parts = λ v ws. refl;
  last = λ d. tt;
  silent = λ d f. refl;
}
